-- A list one of whose items was replaced.
use Rattle.std.specs.Prelude.{◌≡◌, ◌≢◌, ℕ, zero, suc, List, [], ◌∷◌, slice_get, slice_set, Some}
use Rattle.std.proofs.Common.{refl, ap}
use Rattle.std.proofs.lemmas.Option.{none-some}

module _ {A : Type 0} where
  pub set_same : (xs : List A) (c : ℕ) (old new : A) → slice_get xs c ≡ Some old → slice_get (slice_set xs c new) c ≡ Some new
  set_same [] c old new e = absurd (none-some old e)
  set_same (x ∷ xs) zero old new e = refl
  set_same (x ∷ xs) (suc c) old new e = set_same xs c old new e

  pub set_other : (xs : List A) (c d : ℕ) (new : A) → d ≢ c → slice_get (slice_set xs c new) d ≡ slice_get xs d
  set_other [] c d new apart = refl
  set_other (x ∷ xs) zero zero new apart = absurd (apart refl)
  set_other (x ∷ xs) zero (suc d) new apart = refl
  set_other (x ∷ xs) (suc c) zero new apart = refl
  set_other (x ∷ xs) (suc c) (suc d) new apart = set_other xs c d new (λ s. apart (ap (λ n. suc n) s))
