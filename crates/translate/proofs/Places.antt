-- Items of lists by their places, where one is written or comes last.
use Rattle.std.proofs.Common.{◌≡◌, ℕ, zero, suc, ◌<◌, List, [], ◌∷◌, ◌++◌, length, refl, ap, ◌∙◌, arith}
use Rattle.std.specs.Prelude.{slice_get, slice_set, Some}

module _ {X : Type 0} where
  pub get_set_same : (xs : List X) (k : ℕ) (x : X) → k < length xs → slice_get (slice_set xs k x) k ≡ Some x
  get_set_same [] k x h = absurd (omega arith)
  get_set_same (y ∷ xs) zero x h = refl
  get_set_same (y ∷ xs) (suc k) x h = get_set_same xs k x (omega arith)

  pub get_set_below : (xs : List X) (k : ℕ) (x : X) (j : ℕ) → j < k → slice_get (slice_set xs k x) j ≡ slice_get xs j
  get_set_below [] k x j h = refl
  get_set_below (y ∷ xs) zero x j h = absurd (omega arith)
  get_set_below (y ∷ xs) (suc k) x zero h = refl
  get_set_below (y ∷ xs) (suc k) x (suc j) h = get_set_below xs k x j (omega arith)

  pub get_set_above : (xs : List X) (k : ℕ) (x : X) (j : ℕ) → k < j → slice_get (slice_set xs k x) j ≡ slice_get xs j
  get_set_above [] k x j h = refl
  get_set_above (y ∷ xs) k x zero h = absurd (omega arith)
  get_set_above (y ∷ xs) zero x (suc j) h = refl
  get_set_above (y ∷ xs) (suc k) x (suc j) h = get_set_above xs k x j (omega arith)

  -- the item in the last place
  pub get_last : (xs : List X) (x : X) (k : ℕ) → k ≡ length xs → slice_get (xs ++ x ∷ []) k ≡ Some x
  get_last [] x k h = ap (slice_get (x ∷ [])) h
  get_last (y ∷ xs) x k h = ap (slice_get (y ∷ (xs ++ x ∷ []))) h ∙ get_last xs x (length xs) refl
