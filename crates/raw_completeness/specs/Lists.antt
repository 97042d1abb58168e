-- Lists whose items differ: a name's place, and what is found by a name.
use Rattle.std.proofs.Common.{◌≡◌, refl, ap, subst, ℕ, zero, suc, ◌<◌, true, false, List, [], ◌∷◌, length, map, Option, Some, None, arith}
use Rattle.std.specs.Prelude.{◌==◌, slice_get, bytes_eq, is_some}
use Rattle.std.specs.Option.{option_map}
use Rattle.std.specs.Cmp.Lexicographic.{bytes_decides}
use Rattle.std.proofs.lemmas.Bool.Decides.{nat_tests}
use Rattle.text_meaning.specs.Lists.{Each, Differ}
use Rattle.raw_meaning.specs.Outlines.{place_of, is_in}
use Rattle.raw_meaning.specs.Lookups.{find}
use Rattle.raw_completeness.specs.Booleans.{false_if}

pub same_number : (c : ℕ) → (c == c) ≡ true
same_number c = grind (arith, nat_tests)

pub same_bytes : (a : List ℕ) → bytes_eq a a ≡ true
same_bytes a = (bytes_decides a a).1 refl

pub other_bytes : (a b : List ℕ) → (a ≡ b → ⊥) → bytes_eq a b ≡ false
other_bytes a b h = false_if (bytes_eq a b) (λ e. h ((bytes_decides a b).0 e))

-- ---- items

pub each_at : {A : Type 0} (P : A → Type 0) (xs : List A) (k : ℕ) (x : A) → Each P xs → slice_get xs k ≡ Some x → P x
each_at P [] k x h e = absurd cc
each_at P (y ∷ ys) zero x h e = let q : y ≡ x = cc in subst P q h.0
each_at P (y ∷ ys) (suc k) x h e = each_at P ys k x h.1 e

pub each_of_map : {A B : Type 0} (P : B → Type 0) (f : A → B) (xs : List A) → Each P (map f xs) → Each (λ x. P (f x)) xs
each_of_map P f [] h = tt
each_of_map P f (x ∷ xs) h = (h.0, each_of_map P f xs h.1)

pub each_so : {A : Type 0} (P Q : A → Type 0) → ((x : A) → P x → Q x) → (xs : List A) → Each P xs → Each Q xs
each_so P Q f [] h = tt
each_so P Q f (x ∷ xs) h = (f x h.0, each_so P Q f xs h.1)

pub there : {A : Type 0} (xs : List A) (k : ℕ) → k < length xs → (x : A) × (slice_get xs k ≡ Some x)
there [] k h = absurd (omega arith)
there (y ∷ ys) zero h = (y, refl)
there (y ∷ ys) (suc k) h = there ys k (omega arith)

-- ---- names

pub place_of_item : (ns : List (List ℕ)) (a : List ℕ) (k : ℕ) → Differ ns → slice_get ns k ≡ Some a → place_of ns a ≡ Some k
place_of_item [] a k g h = absurd cc
place_of_item (n ∷ ns) a zero g h = let e : n ≡ a = cc in let q = subst (λ x. bytes_eq n x ≡ true) e (same_bytes n) in rw q refl
place_of_item (n ∷ ns) a (suc k) g h =
    let apart = each_at (λ m. n ≡ m → ⊥) ns k a g.0 h in
    rw (other_bytes n a apart) (ap (option_map (λ j. suc j)) (place_of_item ns a k g.1 h))

pub no_place : (ns : List (List ℕ)) (a : List ℕ) → Each (λ n. n ≡ a → ⊥) ns → place_of ns a ≡ None
no_place [] a h = refl
no_place (n ∷ ns) a h = rw (other_bytes n a h.0) (ap (option_map (λ j. suc j)) (no_place ns a h.1))

pub not_in : (ns : List (List ℕ)) (a : List ℕ) → Each (λ n. n ≡ a → ⊥) ns → is_in a ns ≡ false
not_in ns a h = ap (λ (o : Option ℕ). is_some o) (no_place ns a h)

-- ---- what is found by its name, in a list made of another

pub find_item : {A B : Type 0} (f : B → List ℕ) (g : A → B) (xs : List A) (k : ℕ) (x : A) → Differ (map (λ y. f (g y)) xs) → slice_get xs k ≡ Some x →
    find f (map g xs) (f (g x)) ≡ Some (k, g x)
find_item f g [] k x d h = absurd cc
find_item f g (y ∷ ys) zero x d h = let e : y ≡ x = cc in rw e (rw (same_bytes (f (g x))) refl)
find_item {A} {B} f g (y ∷ ys) (suc k) x d h =
    let apart = each_at (λ z. f (g y) ≡ f (g z) → ⊥) ys k x (each_of_map (λ n. f (g y) ≡ n → ⊥) (λ z. f (g z)) ys d.0) h in
    rw (other_bytes (f (g y)) (f (g x)) apart) (ap (option_map (λ (q : ℕ × B). (suc q.0, q.1))) (find_item f g ys k x d.1 h))
