-- Two lists whose items are related one by one, and lists that differ.
use Rattle.std.proofs.Common.{◌≡◌, refl, ap, sym, subst, ℕ, zero, suc, List, [], ◌∷◌, ◌++◌, append_assoc, length, map, Option, Some}
use Rattle.std.specs.Prelude.{slice_get}
use Rattle.text_meaning.specs.Lists.{Each, Differ}
use Rattle.raw_meaning.specs.Trees.{each, both}

module _ {A B : Type 0} (R : A → B → Type 0) where
  -- as many items, each related to its own
  abbrev pub All : List A → List B → Type 0
  All [] [] = Unit {0}
  All [] (y ∷ ys) = ⊥
  All (x ∷ xs) [] = ⊥
  All (x ∷ xs) (y ∷ ys) = R x y × All xs ys

  pub all_each : (f : B → Option A) → ((x : A) (y : B) → R x y → f y ≡ Some x) → (xs : List A) (ys : List B) → All xs ys → each f ys ≡ Some xs
  all_each f g [] [] h = refl
  all_each f g [] (y ∷ ys) h = absurd h
  all_each f g (x ∷ xs) [] h = absurd h
  all_each f g (x ∷ xs) (y ∷ ys) h = λ i. both (λ z zs. z ∷ zs) (g x y h.0 i) (all_each f g xs ys h.1 i)

  pub all_map : {C : Type 0} (f : B → C) (k : A → C) → ((x : A) (y : B) → R x y → f y ≡ k x) → (xs : List A) (ys : List B) → All xs ys → map f ys ≡ map k xs
  all_map f k g [] [] h = refl
  all_map f k g [] (y ∷ ys) h = absurd h
  all_map f k g (x ∷ xs) [] h = absurd h
  all_map f k g (x ∷ xs) (y ∷ ys) h = λ i. g x y h.0 i ∷ all_map f k g xs ys h.1 i

  pub all_length : (xs : List A) (ys : List B) → All xs ys → length ys ≡ length xs
  all_length [] [] h = refl
  all_length [] (y ∷ ys) h = absurd h
  all_length (x ∷ xs) [] h = absurd h
  all_length (x ∷ xs) (y ∷ ys) h = ap (λ (n : ℕ). suc n) (all_length xs ys h.1)

-- ---- lists that differ

pub each_join : {A : Type 0} (P : A → Type 0) (xs ys : List A) → Each P xs → Each P ys → Each P (xs ++ ys)
each_join P [] ys h k = k
each_join P (x ∷ xs) ys h k = (h.0, each_join P xs ys h.1 k)

pub each_front : {A : Type 0} (P : A → Type 0) (xs ys : List A) → Each P (xs ++ ys) → Each P xs
each_front P [] ys h = tt
each_front P (x ∷ xs) ys h = (h.0, each_front P xs ys h.1)

pub each_middle : {A : Type 0} (P : A → Type 0) (xs : List A) (y : A) (ys : List A) → Each P (xs ++ y ∷ ys) → P y
each_middle P [] y ys h = h.0
each_middle P (x ∷ xs) y ys h = each_middle P xs y ys h.1

pub differ_before : {A : Type 0} (xs : List A) (y : A) (ys : List A) → Differ (xs ++ y ∷ ys) → Each (λ x. x ≡ y → ⊥) xs
differ_before [] y ys h = tt
differ_before (x ∷ xs) y ys h = (each_middle (λ z. x ≡ z → ⊥) xs y ys h.0, differ_before xs y ys h.1)

pub differ_front : {A : Type 0} (xs ys : List A) → Differ (xs ++ ys) → Differ xs
differ_front [] ys h = tt
differ_front (x ∷ xs) ys h = (each_front (λ z. x ≡ z → ⊥) xs ys h.0, differ_front xs ys h.1)

-- the next item among those before
pub differ_next : {A : Type 0} (xs : List A) (y : A) (ys : List A) → Differ (xs ++ y ∷ ys) → Differ ((xs ++ y ∷ []) ++ ys)
differ_next xs y ys h = subst Differ (sym (append_assoc xs (y ∷ []) ys)) h

-- ---- items of two lists one after the other

pub at_front : {A : Type 0} (xs ys : List A) (k : ℕ) (x : A) → slice_get xs k ≡ Some x → slice_get (xs ++ ys) k ≡ Some x
at_front [] ys k x h = absurd cc
at_front (y ∷ xs) ys zero x h = h
at_front (y ∷ xs) ys (suc k) x h = at_front xs ys k x h

pub at_middle : {A : Type 0} (xs : List A) (y : A) (ys : List A) → slice_get (xs ++ y ∷ ys) (length xs) ≡ Some y
at_middle [] y ys = refl
at_middle (x ∷ xs) y ys = at_middle xs y ys
