-- Parts of trees as code goes to them: the first step first.
use Rattle.std.specs.Prelude.{◌≡◌, ℕ, List, [], ◌∷◌, slice_get, slice_set, Option, Some, None, Result, MatchResult}
use Rattle.std.specs.Option.{option_map, option_and_then, unwrap_or}
use Rattle.mach_mem.specs.Trees.{MTree}
use Rattle.mach_mem.specs.Memory.{Slot, unit, child, set_child, held}

abbrev pub part_at : List ℕ → MTree → Option MTree
part_at [] t = Some t
part_at (k ∷ ks) t = option_and_then (part_at ks) (child k t)

-- the tree with another part at the end of these steps
abbrev pub with_part_at : List ℕ → MTree → MTree → Option MTree
with_part_at [] x t = Some x
with_part_at (k ∷ ks) x t = option_and_then (λ part. option_and_then (λ p. set_child k p t) (with_part_at ks x part)) (child k t)

-- a list of trees with another part at the end of these steps in its item k
abbrev pub with_part_in : List ℕ → MTree → List MTree → ℕ → Option (List MTree)
with_part_in ks x ts k = option_and_then (λ part. option_map (slice_set ts k) (with_part_at ks x part)) (slice_get ts k)

abbrev pub slot_part : List ℕ → Slot → Option MTree
slot_part ks s = option_and_then (part_at ks) (held (Some s))

abbrev pub first_tree : List ℕ → MTree → Slot
first_tree [] x = Some (Some x)
first_tree (k ∷ ks) x = None

-- what a cell that is there holds after a write
abbrev pub with_slot : List ℕ → MTree → Option MTree → Slot
with_slot ks x None = first_tree ks x
with_slot ks x (Some t) = option_map (λ u. Some u) (with_part_at ks x t)

-- an exchange gave what was there and made the new state, or gave back what it was to put there
abbrev pub Exchanges : {A : Type 0} → Option MTree → Option A → A → A → MTree → Result MTree MTree → Type 0
Exchanges got made old new x r = MatchResult r (λ o. (got ≡ Some o) × (made ≡ Some new)) (λ back. (back ≡ x) × (made ≡ None) × (new ≡ old))

-- the same for a cell: an empty one gives `()`
abbrev pub Fills : Slot → List ℕ → MTree → Result MTree MTree → (Slot → Type 0) → Type 0
Fills s ks x r After =
    MatchResult r (λ o. (o ≡ unwrap_or (slot_part ks s) unit) × ((t : Option MTree) × (option_and_then (with_slot ks x) s ≡ Some t) × After (Some t)))
    (λ back. (back ≡ x) × (option_and_then (with_slot ks x) s ≡ None) × After s)
