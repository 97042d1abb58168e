-- Facts on each item of a list.
use Rattle.std.proofs.Common.{◌≡◌, refl, ap, ℕ, zero, suc, ◌<◌, List, [], ◌∷◌, ◌++◌, length, map, Some, arith}
use Rattle.std.specs.Prelude.{slice_get}
use Rattle.std.specs.List.{flat_map}
use Rattle.text_meaning.specs.Lists.{Each, Differ}
use Rattle.raw_meaning.specs.OptionLemmas.{none_left, none_right}

-- nothing of any item
pub none_each : {A B : Type 0} (f : A → List B) (xs : List A) → flat_map f xs ≡ [] → Each (λ x. f x ≡ []) xs
none_each f [] h = tt
none_each f (x ∷ xs) h = (none_left (f x) (flat_map f xs) h, none_each f xs (none_right (f x) (flat_map f xs) h))

-- each item
pub each_join : {A : Type 0} (P : A → Type 0) (xs ys : List A) → Each P xs → Each P ys → Each P (xs ++ ys)
each_join P [] ys h k = k
each_join P (x ∷ xs) ys h k = (h.0, each_join P xs ys h.1 k)

pub each_front : {A : Type 0} (P : A → Type 0) (xs ys : List A) → Each P (xs ++ ys) → Each P xs
each_front P [] ys h = tt
each_front P (x ∷ xs) ys h = (h.0, each_front P xs ys h.1)

pub each_back : {A : Type 0} (P : A → Type 0) (xs ys : List A) → Each P (xs ++ ys) → Each P ys
each_back P [] ys h = h
each_back P (x ∷ xs) ys h = each_back P xs ys h.1

pub each_so : {A : Type 0} (P Q : A → Type 0) → ((x : A) → P x → Q x) → (xs : List A) → Each P xs → Each Q xs
each_so P Q f [] h = tt
each_so P Q f (x ∷ xs) h = (f x h.0, each_so P Q f xs h.1)

pub each_with : {A : Type 0} (P Q R : A → Type 0) → ((x : A) → P x → Q x → R x) → (xs : List A) → Each P xs → Each Q xs → Each R xs
each_with P Q R f [] h k = tt
each_with P Q R f (x ∷ xs) h k = (f x h.0 k.0, each_with P Q R f xs h.1 k.1)

pub each_swap : {A B : Type 0} (R : A → B → Type 0) (xs : List A) (ys : List B) → Each (λ x. Each (R x) ys) xs → Each (λ y. Each (λ x. R x y) xs) ys
each_swap R xs [] h = tt
each_swap R xs (y ∷ ys) h = (
  each_so (λ x. Each (R x) (y ∷ ys)) (λ x. R x y) (λ x r. r.0) xs h,
  each_swap R xs ys (each_so (λ x. Each (R x) (y ∷ ys)) (λ x. Each (R x) ys) (λ x r. r.1) xs h),
)

pub each_mapped : {A B : Type 0} (P : B → Type 0) (f : A → B) (xs : List A) → Each (λ x. P (f x)) xs → Each P (map f xs)
each_mapped P f [] h = tt
each_mapped P f (x ∷ xs) h = (h.0, each_mapped P f xs h.1)

pub mapped_each : {A B : Type 0} (P : B → Type 0) (f : A → B) (xs : List A) → Each P (map f xs) → Each (λ x. P (f x)) xs
mapped_each P f [] h = tt
mapped_each P f (x ∷ xs) h = (h.0, mapped_each P f xs h.1)

pub map_twice : {A B C : Type 0} (f : B → C) (g : A → B) (xs : List A) → map f (map g xs) ≡ map (λ x. f (g x)) xs
map_twice f g [] = refl
map_twice f g (x ∷ xs) = ap (λ ys. f (g x) ∷ ys) (map_twice f g xs)

-- one more item that differs from those before it
pub differ_last : {A : Type 0} (xs : List A) (x : A) → Differ xs → Each (λ y. y ≡ x → ⊥) xs → Differ (xs ++ x ∷ [])
differ_last [] x h k = (tt, tt)
differ_last (y ∷ ys) x h k = (each_join (λ z. y ≡ z → ⊥) ys (x ∷ []) h.0 (k.0, tt), differ_last ys x h.1 k.1)

-- an item's place
pub within : {A : Type 0} (xs : List A) (k : ℕ) (x : A) → slice_get xs k ≡ Some x → k < length xs
within [] k x h = absurd cc
within (y ∷ ys) zero x h = omega arith
within (y ∷ ys) (suc k) x h = let r = within ys k x h in omega arith
