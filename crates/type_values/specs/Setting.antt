-- Setting an item of a list.
use Rattle.std.proofs.Common.{◌≡◌, ℕ, zero, suc, ◌≤◌, List, [], ◌∷◌, length, refl, ap, arith}
use Rattle.std.specs.Prelude.{slice_set}

-- behind its end nothing changes
pub set_beyond : {A : Type 0} (xs : List A) (k : ℕ) (x : A) → length xs ≤ k → slice_set xs k x ≡ xs
set_beyond [] zero x h = refl
set_beyond [] (suc k) x h = refl
set_beyond (y ∷ ys) zero x h = absurd (omega arith)
set_beyond (y ∷ ys) (suc k) x h = ap (λ zs. y ∷ zs) (set_beyond ys k x (omega arith))
