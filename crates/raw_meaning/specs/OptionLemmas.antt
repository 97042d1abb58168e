-- What is made of answers that may be missing.
use Rattle.std.specs.Prelude.{◌≡◌, refl, ℕ, suc, Bool, true, false, ◌==◌, if◌then◌else◌, List, [], ◌∷◌, ◌++◌, length, map, Option, Some, None}
use Rattle.std.specs.Option.{option_map, option_and_then}
use Rattle.std.proofs.Common.{ap, sym, ◌∙◌, subst}
use Rattle.aen_base.specs.declared.span.Span.{Span}
use Rattle.raw_meaning.specs.Rules.{unless}
use Rattle.raw_meaning.specs.Trees.{both, three, four, each, with_parts}

-- the same of the one as of the other
pub some_so : {A : Type 0} (P : A → Type 0) (x y : A) → Some x ≡ Some y → P x → P y
some_so P x y h p = let e : x ≡ y = cc in subst P e p

pub mapped_made : {A B : Type 0} (f : A → B) (o : Option A) (y : B) → option_map f o ≡ Some y → (x : A) × (o ≡ Some x) × (f x ≡ y)
mapped_made f None y h = absurd cc
mapped_made f (Some x) y h = let e : f x ≡ y = cc in (x, refl, e)

pub followed_made : {A B : Type 0} (f : A → Option B) (o : Option A) (y : B) → option_and_then f o ≡ Some y → (x : A) × (o ≡ Some x) × (f x ≡ Some y)
followed_made f None y h = absurd cc
followed_made f (Some x) y h = (x, refl, h)

pub record IsBoth {A B D : Type 0} (f : A → B → D) (o : Option A) (q : Option B) (z : D) : Type 0 where
  pub first : A
  pub second : B
  pub is_first : o ≡ Some first
  pub is_second : q ≡ Some second
  pub is : f first second ≡ z

pub both_made : {A B D : Type 0} (f : A → B → D) (o : Option A) (q : Option B) (z : D) → both f o q ≡ Some z → IsBoth f o q z
both_made f None q z h = absurd cc
both_made f (Some x) None z h = absurd cc
both_made f (Some x) (Some y) z h = let e : f x y ≡ z = cc in record { first = x; second = y; is_first = refl; is_second = refl; is = e }

pub record IsThree {A B D E : Type 0} (f : A → B → D → E) (o : Option A) (q : Option B) (r : Option D) (z : E) : Type 0 where
  pub first : A
  pub second : B
  pub third : D
  pub is_first : o ≡ Some first
  pub is_second : q ≡ Some second
  pub is_third : r ≡ Some third
  pub is : f first second third ≡ z

pub three_made : {A B D E : Type 0} (f : A → B → D → E) (o : Option A) (q : Option B) (r : Option D) (z : E) → three f o q r ≡ Some z → IsThree f o q r z
three_made f None q r z h = absurd cc
three_made f (Some x) q r z h =
    let b = both_made (f x) q r z h in
    record { first = x; second = b.first; third = b.second; is_first = refl; is_second = b.is_first; is_third = b.is_second; is = b.is }

pub record IsFour {A B D E F : Type 0} (f : A → B → D → E → F) (o : Option A) (q : Option B) (r : Option D) (s : Option E) (z : F) : Type 0 where
  pub first : A
  pub rest : IsThree (f first) q r s z
  pub is_first : o ≡ Some first

pub four_made : {A B D E F : Type 0} (f : A → B → D → E → F) (o : Option A) (q : Option B) (r : Option D) (s : Option E) (z : F) → four f o q r s ≡ Some z → IsFour f o q r s z
four_made f None q r s z h = absurd cc
four_made f (Some x) q r s z h = record { first = x; rest = three_made (f x) q r s z h; is_first = refl }

-- what has so many parts is there
pub parts_by : {A : Type 0} (b : Bool) (x z : A) → (if b then Some x else None) ≡ Some z → x ≡ z
parts_by true x z h = cc
parts_by false x z h = absurd cc

pub parts_made : {A : Type 0} (o : Option (A × ℕ)) (count : ℕ) (x : A) → with_parts o count ≡ Some x → (p : A × ℕ) × (o ≡ Some p) × (p.0 ≡ x)
parts_made None count x h = absurd cc
parts_made (Some p) count x h = (p, refl, parts_by (p.1 == count) p.0 x h)

-- what is the same of each item and of what is made of it
pub each_same : {A B D : Type 0} (f : A → Option B) (g : B → D) (k : A → D) → ((x : A) (y : B) → f x ≡ Some y → g y ≡ k x) → (xs : List A) (ys : List B) → each f xs ≡ Some ys → map g ys ≡ map k xs
each_same f g k r [] ys h = some_so (λ ys. map g ys ≡ []) [] ys h refl
each_same f g k r (x ∷ xs) ys h =
    let b = both_made (λ y ys. y ∷ ys) (f x) (each f xs) ys h in
    subst (λ ys. map g ys ≡ k x ∷ map k xs) b.is (λ i. r x b.first b.is_first i ∷ each_same f g k r xs b.second b.is_second i)

pub each_length : {A B : Type 0} (f : A → Option B) (xs : List A) (ys : List B) → each f xs ≡ Some ys → length ys ≡ length xs
each_length f [] ys h = some_so (λ ys. length ys ≡ 0) [] ys h refl
each_length f (x ∷ xs) ys h =
    let b = both_made (λ y ys. y ∷ ys) (f x) (each f xs) ys h in
    ap length (sym b.is) ∙ ap (λ n. suc n) (each_length f xs b.second b.is_second)

-- nothing in two lists together
pub none_left : {A : Type 0} (xs ys : List A) → xs ++ ys ≡ [] → xs ≡ []
none_left [] ys h = refl
none_left (x ∷ xs) ys h = absurd cc

pub none_right : {A : Type 0} (xs ys : List A) → xs ++ ys ≡ [] → ys ≡ []
none_right [] ys h = h
none_right (x ∷ xs) ys h = absurd cc

-- what is not broken holds
pub unbroken : (b : Bool) (place : Span) → unless b place ≡ [] → b ≡ true
unbroken true place h = refl
unbroken false place h = absurd cc
