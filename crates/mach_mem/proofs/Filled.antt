-- A write to what a cell holds.
use Rattle.std.proofs.Common.{◌≡◌, ℕ, true, eqb, List, [], ◌∷◌, length, arith, Option, Some, None, Result, Ok, Err, option_map, refl, sym, ap}
use Rattle.std.specs.Option.{unwrap_or}
use Rattle.std.proofs.lemmas.Bool.{eqb-true}
use Rattle.mach_mem.specs.Trees.{MTree}
use Rattle.mach_mem.specs.Memory.{Slot, unit}
use Rattle.mach_mem.specs.Steps.{part_at, with_part_at, Exchanges, Fills}

-- the cell holds a tree, in which a part was exchanged
pub of_tree : (slot : Option MTree) (ks : List ℕ) (x t u : MTree) (r : Result MTree MTree) → slot ≡ Some t → Exchanges (part_at ks t) (with_part_at ks x t) t u x r →
    Fills (Some slot) ks x r (λ after. ◌≡◌ {A = Slot} (Some (Some u)) after)
of_tree slot ks x t u (Ok o) e h = rw e (sym (ap (λ p. unwrap_or p unit) h.0), (Some u, ap (option_map (λ v. Some v)) h.1, refl))
of_tree slot ks x t u (Err back) e h = rw e (h.0, ap (option_map (λ v. Some v)) h.1, ap (λ v. Some (Some v)) h.2)

no_steps : (ks : List ℕ) → length ks ≡ 0 → ks ≡ []
no_steps [] e = refl
no_steps (k ∷ ks) e = absurd (omega (arith, e))

-- the cell is empty
pub of_empty : (slot : Option MTree) (ks : List ℕ) (x o : MTree) → slot ≡ None → true ≡ eqb (length ks) 0 → o ≡ unit →
    Fills (Some slot) ks x (Ok o) (λ after. ◌≡◌ {A = Slot} (Some (Some x)) after)
of_empty slot ks x o e s h = rw (e, no_steps ks (eqb-true (length ks) 0 (sym s))) (h, (Some x, refl, refl))
