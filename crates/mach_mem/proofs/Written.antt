-- Reads and writes along the steps, the first one first, are those of the definition at the reversed path.
use Rattle.std.proofs.Common.{◌≡◌, ℕ, List, [], ◌∷◌, slice_get, slice_set, Option, Some, None, option_map, option_and_then, reverse, refl, ap, ◌∙◌}
use mathlib.Core.List.{reverse_aux}
use Rattle.mach_mem.specs.Addresses.{CellNumber, Path}
use Rattle.mach_mem.specs.Trees.{MTree}
use Rattle.mach_mem.specs.Memory.{Memory, child, set_child, held, read_at, with_cells, fill, write_at}
use Rattle.mach_mem.specs.Parts.{set_child_missing}
use Rattle.mach_mem.specs.Steps.{part_at, with_part_at, with_slot}

module _ (m : Memory) (c : CellNumber) where
  stepped : (k : ℕ) (ks : List ℕ) (o : Option MTree) → option_and_then (part_at ks) (option_and_then (child k) o) ≡ option_and_then (part_at (k ∷ ks)) o
  stepped k ks None = refl
  stepped k ks (Some t) = refl

  pub read_along : (ks : List ℕ) (p : Path) → read_at m c (reverse_aux ks p) ≡ option_and_then (part_at ks) (read_at m c p)
  read_along [] p = whole (read_at m c p)
    where
      whole : (o : Option MTree) → o ≡ option_and_then (part_at []) o
      whole None = refl
      whole (Some t) = refl
  read_along (k ∷ ks) p = read_along ks (k ∷ p) ∙ stepped k ks (read_at m c p)

  -- nothing is written below what isn't there
  not_there : (ks : List ℕ) (k : ℕ) (p : Path) (x : MTree) → read_at m c p ≡ None → write_at m c (reverse_aux ks (k ∷ p)) x ≡ None
  not_there [] k p x e = ap (λ o. option_and_then (write_at m c p) (option_and_then (set_child k x) o)) e
  not_there (j ∷ ks) k p x e = not_there ks j (k ∷ p) x (ap (option_and_then (child k)) e)

  no_part : (ks : List ℕ) (k : ℕ) (p : Path) (x t : MTree) → read_at m c p ≡ Some t → child k t ≡ None → write_at m c (reverse_aux ks (k ∷ p)) x ≡ None
  no_part [] k p x t e missing =
      ap (λ o. option_and_then (write_at m c p) (option_and_then (set_child k x) o)) e ∙ ap (option_and_then (write_at m c p)) (set_child_missing k x t missing)
  no_part (j ∷ ks) k p x t e missing = not_there ks j (k ∷ p) x (ap (option_and_then (child k)) e ∙ missing)

  -- a part was written: its whole is
  put_in : (k : ℕ) (p : Path) (t : MTree) (o : Option MTree) → read_at m c p ≡ Some t →
      option_and_then (write_at m c (k ∷ p)) o ≡ option_and_then (write_at m c p) (option_and_then (λ z. set_child k z t) o)
  put_in k p t None e = refl
  put_in k p t (Some z) e = ap (λ o. option_and_then (write_at m c p) (option_and_then (set_child k z) o)) e

  pub write_along : (ks : List ℕ) (p : Path) (x t : MTree) → read_at m c p ≡ Some t → write_at m c (reverse_aux ks p) x ≡ option_and_then (write_at m c p) (with_part_at ks x t)
  write_along [] p x t e = refl
  write_along (k ∷ ks) p x t e = by (child k t) refl (write_along ks (k ∷ p) x)
    where
      by : (o : Option MTree) → child k t ≡ o → ((y : MTree) → read_at m c (k ∷ p) ≡ Some y → write_at m c (reverse_aux ks (k ∷ p)) x ≡ option_and_then (write_at m c (k ∷ p)) (with_part_at ks x y)) →
          write_at m c (reverse_aux ks (k ∷ p)) x ≡ option_and_then (write_at m c p) (option_and_then (λ part. option_and_then (λ z. set_child k z t) (with_part_at ks x part)) o)
      by None q step = no_part ks k p x t e q
      by (Some y) q step = step y (ap (option_and_then (child k)) e ∙ q) ∙ put_in k p t (with_part_at ks x y) e

  abbrev pub refilled : Option MTree → Memory
  refilled o = with_cells m (slice_set m.cells c (Some o))

  -- a write to a cell that is there
  pub write_slot : (ks : List ℕ) (x : MTree) (o : Option MTree) → slice_get m.cells c ≡ Some (Some o) → write_at m c (reverse ks) x ≡ option_map refilled (with_slot ks x o)
  write_slot [] x None e = ap (fill m c x) e
  write_slot (k ∷ ks) x None e = not_there ks k [] x (ap held e)
  write_slot ks x (Some t) e = write_along ks [] x t (ap held e) ∙ by (with_part_at ks x t)
    where
      by : (o : Option MTree) → option_and_then (write_at m c []) o ≡ option_map refilled (option_map (λ u. Some u) o)
      by None = refl
      by (Some u) = ap (fill m c u) e

  -- a write to a cell that isn't there
  pub write_nowhere : (ks : List ℕ) (x : MTree) → held (slice_get m.cells c) ≡ None → fill m c x (slice_get m.cells c) ≡ None → write_at m c (reverse ks) x ≡ None
  write_nowhere [] x e none = none
  write_nowhere (k ∷ ks) x e none = not_there ks k [] x e
