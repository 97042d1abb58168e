use Rattle.std.proofs.Common.{◌≡◌, ℕ, ◌<◌, true}
use Rattle.core_ty.specs.Marks as spec
use Rattle.core_ty.proofs.search.pending.Given as goal

abbrev pub invariant-loop-place : goal.invariant-loop-place
invariant-loop-place l = (e : ℕ) → e < l.place → spec.is_set l.seen e ≡ true → spec.is_set l.done e ≡ true
