-- Tests and lists of bytes.
use Rattle.std.proofs.Common.{◌≡◌, refl, sym, ℕ, zero, suc, Bool, true, false, List, [], ◌∷◌, ◌++◌, take, drop, Some, take-append-drop}
use Rattle.std.specs.Prelude.{◌&&◌, ◌||◌, ◌==◌, if◌then◌else◌, bytes_eq}
use Rattle.std.proofs.lemmas.Bool.{eqb-true}
use Rattle.std.proofs.lemmas.Slice.Eq.{bytes_eq-Decides}
use Rattle.rust_lex.specs.Characters.{begins}

pub by_test : {A : Type 0} {G : Type 0} (b : Bool) (x y out : A) → (if b then x else y) ≡ out → (b ≡ true → x ≡ out → G) → (b ≡ false → y ≡ out → G) → G
by_test true x y out h f g = f refl h
by_test false x y out h f g = g refl h

-- a fact about a choice, by its test
pub choose : {A : Type 0} (P : A → Type 0) (b : Bool) (x y : A) → (b ≡ true → P x) → (b ≡ false → P y) → P (if b then x else y)
choose P true x y f g = f refl
choose P false x y f g = g refl

pub if_true : {A : Type 0} (b : Bool) (x y : A) → b ≡ true → (if b then x else y) ≡ x
if_true true x y h = refl
if_true false x y h = absurd cc

pub if_false : {A : Type 0} (b : Bool) (x y : A) → b ≡ false → (if b then x else y) ≡ y
if_false true x y h = absurd cc
if_false false x y h = refl

pub and_left : (a b : Bool) → (a && b) ≡ true → a ≡ true
and_left true b h = refl
and_left false b h = h

pub and_right : (a b : Bool) → (a && b) ≡ true → b ≡ true
and_right true b h = h
and_right false b h = absurd cc

pub and_both : (a b : Bool) → a ≡ true → b ≡ true → (a && b) ≡ true
and_both a b h k = rw h k

pub and_false : (a : Bool) → (a && false) ≡ false
and_false true = refl
and_false false = refl

pub or_cases : {G : Type 0} (a b : Bool) → (a || b) ≡ true → (a ≡ true → G) → (b ≡ true → G) → G
or_cases true b h f g = f refl
or_cases false b h f g = g h

pub or_true : (a b : Bool) → b ≡ true → (a || b) ≡ true
or_true true b h = refl
or_true false b h = h

pub or_left : (a b : Bool) → (a || b) ≡ false → a ≡ false
or_left true b h = h
or_left false b h = refl

pub or_right : (a b : Bool) → (a || b) ≡ false → b ≡ false
or_right true b h = absurd cc
or_right false b h = h

-- a Bool that can't be true is false
pub not_true : (b : Bool) → (b ≡ true → ⊥) → b ≡ false
not_true true h = absurd (h refl)
not_true false h = refl

pub clash : {G : Type 0} (b : Bool) → b ≡ true → b ≡ false → G
clash true h k = absurd cc
clash false h k = absurd cc

pub same_bytes : (v w : List ℕ) → bytes_eq v w ≡ true → v ≡ w
same_bytes [] [] h = refl
same_bytes [] (b ∷ w) h = absurd cc
same_bytes (a ∷ v) [] h = absurd cc
same_bytes (a ∷ v) (b ∷ w) h =
    let e = eqb-true a b (and_left (a == b) (bytes_eq v w) h) in
    let r = same_bytes v w (and_right (a == b) (bytes_eq v w) h) in
    λ i. e i ∷ r i

pub bytes_same : (w : List ℕ) → bytes_eq w w ≡ true
bytes_same w = (bytes_eq-Decides w w).1 refl

-- a part of a text
pub split : (n : ℕ) (text : List ℕ) → text ≡ take n text ++ drop n text
split n text = sym (take-append-drop n text)

-- what begins the beginning of a text begins the text
pub begins_take : (p : ℕ → Bool) (m : ℕ) (text : List ℕ) → begins p (take m text) ≡ true → begins p text ≡ true
begins_take p zero text h = absurd cc
begins_take p (suc m) [] h = h
begins_take p (suc m) (c ∷ cs) h = h

pub some_same : {A : Type 0} (a b : A) → Some a ≡ Some b → a ≡ b
some_same a b h = cc
