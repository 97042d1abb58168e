-- Tests of all items of a list.
use Rattle.std.proofs.Common.{◌≡◌, refl, ap, sym, ◌∙◌}
use Rattle.std.specs.Prelude.{Bool, true, false, ◌&&◌, ◌||◌, List, [], ◌∷◌, ◌++◌, map, ⊤}
use Rattle.std.specs.List.{list_all}

pub with_true : (b : Bool) → (b && true) ≡ b
with_true true = refl
with_true false = refl

-- two tests that pass together are one
pub same_test : (a b : Bool) → (a ≡ true → b ≡ true) → (b ≡ true → a ≡ true) → a ≡ b
same_test true b f g = sym (f refl)
same_test false true f g = g refl
same_test false false f g = refl

and_again : (a b c : Bool) → ((a && b) && c) ≡ (a && (b && c))
and_again true b c = refl
and_again false b c = refl

abbrev pub is_nil : {A : Type 0} → List A → Bool
is_nil [] = true
is_nil (x ∷ xs) = false

-- P holds of each item
abbrev pub Each : {A : Type 0} → (A → Type 0) → List A → Type 0
Each P [] = ⊤
Each P (x ∷ xs) = P x × Each P xs

either_way : (n b : Bool) → (b && (n || b)) ≡ (false || b)
either_way true true = refl
either_way true false = refl
either_way false true = refl
either_way false false = refl

module _ {A : Type 0} where
  pub each_then : {P Q : A → Type 0} (xs : List A) → ((x : A) → P x → Q x) → Each P xs → Each Q xs
  each_then [] f h = tt
  each_then (x ∷ xs) f h = (f x h.0, each_then xs f h.1)

  pub each_append : (P : A → Type 0) (xs ys : List A) → Each P xs → Each P ys → Each P (xs ++ ys)
  each_append P [] ys h k = k
  each_append P (x ∷ xs) ys h k = (h.0, each_append P xs ys h.1 k)

  pub each_before : (P : A → Type 0) (xs ys : List A) → Each P (xs ++ ys) → Each P xs
  each_before P [] ys h = tt
  each_before P (x ∷ xs) ys h = (h.0, each_before P xs ys h.1)

  pub each_after : (P : A → Type 0) (xs ys : List A) → Each P (xs ++ ys) → Each P ys
  each_after P [] ys h = h
  each_after P (x ∷ xs) ys h = each_after P xs ys h.1

  pub all_same : (F G : A → Bool) (xs : List A) → Each (λ x. F x ≡ G x) xs → list_all F xs ≡ list_all G xs
  all_same F G [] h = refl
  all_same F G (x ∷ xs) h = λ i. h.0 i && all_same F G xs h.1 i

  pub all_append : (F : A → Bool) (xs ys : List A) → list_all F (xs ++ ys) ≡ (list_all F xs && list_all F ys)
  all_append F [] ys = refl
  all_append F (x ∷ xs) ys = ap (λ b. F x && b) (all_append F xs ys) ∙ sym (and_again (F x) (list_all F xs) (list_all F ys))

  -- a test that says the same of each item
  pub all_one : (b : Bool) (xs : List A) → list_all (λ x. b) xs ≡ (is_nil xs || b)
  all_one b [] = refl
  all_one b (x ∷ xs) = ap (λ c. b && c) (all_one b xs) ∙ either_way (is_nil xs) b

  pub nil_append : (xs ys : List A) → is_nil (xs ++ ys) ≡ (is_nil xs && is_nil ys)
  nil_append [] ys = refl
  nil_append (x ∷ xs) ys = refl

pub all_map : {A B : Type 0} (F : B → Bool) (f : A → B) (xs : List A) → list_all F (map f xs) ≡ list_all (λ x. F (f x)) xs
all_map F f [] = refl
all_map F f (x ∷ xs) = ap (λ b. F (f x) && b) (all_map F f xs)

pub nil_map : {A B : Type 0} (f : A → B) (xs : List A) → is_nil (map f xs) ≡ is_nil xs
nil_map f [] = refl
nil_map f (x ∷ xs) = refl

pub each_map : {A B : Type 0} (P : B → Type 0) (f : A → B) (xs : List A) → Each (λ x. P (f x)) xs → Each P (map f xs)
each_map P f [] h = tt
each_map P f (x ∷ xs) h = (h.0, each_map P f xs h.1)
