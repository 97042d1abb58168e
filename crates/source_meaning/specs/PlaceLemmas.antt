-- Items of lists by their places.
use Rattle.std.proofs.Common.{◌≡◌, ℕ, zero, suc, ◌+◌, ◌<◌, List, [], ◌∷◌, ◌++◌, length, refl, ap, ◌∙◌, arith}
use Rattle.std.specs.Prelude.{slice_get, slice_set, Some}
use Rattle.std.proofs.lemmas.Option.{slice_get_within}

module _ {X : Type 0} where
  pub get_left : (xs ys : List X) (k : ℕ) → k < length xs → slice_get (xs ++ ys) k ≡ slice_get xs k
  get_left [] ys k h = absurd (omega arith)
  get_left (x ∷ xs) ys zero h = refl
  get_left (x ∷ xs) ys (suc k) h = get_left xs ys k (omega arith)

  pub get_left_some : (xs ys : List X) (k : ℕ) (x : X) → slice_get xs k ≡ Some x → slice_get (xs ++ ys) k ≡ Some x
  get_left_some xs ys k x h = get_left xs ys k (slice_get_within xs k x h) ∙ h

  pub get_right : (xs ys : List X) (k : ℕ) → slice_get (xs ++ ys) (length xs + k) ≡ slice_get ys k
  get_right [] ys k = let e : 0 + k ≡ k = omega arith in ap (slice_get ys) e
  get_right (x ∷ xs) ys k =
      let e : suc (length xs) + k ≡ suc (length xs + k) = omega arith in
      ap (slice_get (x ∷ (xs ++ ys))) e ∙ get_right xs ys k

  pub set_left : (xs ys : List X) (k : ℕ) (x : X) → k < length xs → slice_set (xs ++ ys) k x ≡ slice_set xs k x ++ ys
  set_left [] ys k x h = absurd (omega arith)
  set_left (y ∷ xs) ys zero x h = refl
  set_left (y ∷ xs) ys (suc k) x h = ap (λ l. y ∷ l) (set_left xs ys k x (omega arith))

  pub set_right : (xs ys : List X) (k : ℕ) (x : X) → slice_set (xs ++ ys) (length xs + k) x ≡ xs ++ slice_set ys k x
  set_right [] ys k x = let e : 0 + k ≡ k = omega arith in ap (λ j. slice_set ys j x) e
  set_right (y ∷ xs) ys k x =
      let e : suc (length xs) + k ≡ suc (length xs + k) = omega arith in
      ap (λ j. slice_set (y ∷ (xs ++ ys)) j x) e ∙ ap (λ l. y ∷ l) (set_right xs ys k x)
