use Rattle.std.proofs.Common.{◌≡◌, ◌⊎◌, ℕ, true, length, take}
use Rattle.std.specs.List.{All, Contains}
use Rattle.core_ty.specs.Marks as spec
use Rattle.core_ty.proofs.search.see.Given as goal

abbrev pub invariant-loop-part : goal.invariant-loop-part
invariant-loop-part l =
    (length l.seen ≡ length l.initial.seen)
    × ((e : ℕ) → spec.is_set l.initial.seen e ≡ true → spec.is_set l.seen e ≡ true)
    × All (spec.IsSeen l.seen) (take l.part-index l.parts)
    × ((e : ℕ) → spec.is_set l.seen e ≡ true → (spec.is_set l.initial.seen e ≡ true) ⊎ Contains l.parts (spec.type_number e))
