-- Pieces of a text one after another.
use Rattle.std.proofs.Common.{◌≡◌, refl, ap, sym, ◌∙◌, ℕ, zero, suc, ◌<◌, Bool, true, false, List, [], ◌∷◌, ◌++◌, length, drop, arith}
use Rattle.std.specs.Prelude.{◌==◌, if◌then◌else◌, Option, Some, None}
use Rattle.std.specs.Option.{option_and_then}
use Rattle.text_words.specs.Pieces.{after, is_end}
use Rattle.std.proofs.lemmas.Bool.Decides.{nat_tests}

same_number : (c : ℕ) → (c == c) ≡ true
same_number c = grind (arith, nat_tests)

numbers_same : (c d : ℕ) → (c == d) ≡ true → c ≡ d
numbers_same c d h = grind (arith, nat_tests)

joined_by : (p q t : List ℕ) (test : Bool) → (after (p ++ q) t ≡ option_and_then (after q) (after p t)) →
    (if test then after (p ++ q) t else None) ≡ option_and_then (after q) (if test then after p t else None)
joined_by p q t true h = h
joined_by p q t false h = refl

pub after_joined : (p q t : List ℕ) → after (p ++ q) t ≡ option_and_then (after q) (after p t)
after_joined [] q t = refl
after_joined (c ∷ p) q [] = refl
after_joined (c ∷ p) q (d ∷ t) = joined_by p q t (c == d) (after_joined p q t)

-- a piece is there, or is not, and another comes after it
pub after_both : (p q t rest : List ℕ) (r : Option (List ℕ)) → Some rest ≡ after p t → r ≡ after q rest → r ≡ after (p ++ q) t
after_both p q t rest r a b = b ∙ ap (option_and_then (after q)) a ∙ sym (after_joined p q t)

pub after_none : (p q t : List ℕ) (r : Option (List ℕ)) → None ≡ after p t → r ≡ None → r ≡ after (p ++ q) t
after_none p q t r a b = b ∙ ap (option_and_then (after q)) a ∙ sym (after_joined p q t)

-- nothing is left of a text after a piece where the piece is the text
pub after_itself : (p : List ℕ) → after p p ≡ Some []
after_itself [] = refl
after_itself (c ∷ p) = rw (same_number c) (after_itself p)

same_by : (c d : ℕ) (p t : List ℕ) (test : Bool) → (test ≡ true → c ≡ d) → (is_end (after p t) ≡ true → p ≡ t) →
    is_end (if test then after p t else None) ≡ true → c ∷ p ≡ d ∷ t
same_by c d p t true h same e = λ i. (h refl i) ∷ (same e i)
same_by c d p t false h same e = cc

pub ended : (p t : List ℕ) → is_end (after p t) ≡ true → p ≡ t
ended [] [] e = refl
ended [] (d ∷ t) e = cc
ended (c ∷ p) [] e = cc
ended (c ∷ p) (d ∷ t) e = same_by c d p t (c == d) (numbers_same c d) (ended p t) e

pub ends : (p t : List ℕ) → p ≡ t → is_end (after p t) ≡ true
ends p t e = ap (λ l. is_end (after p l)) (sym e) ∙ ap is_end (after_itself p)

-- a text that has ended before the piece
pub after_nothing : (piece : List ℕ) (i : ℕ) → i < length piece → after (drop i piece) [] ≡ None
after_nothing [] i h = absurd (omega (arith, h))
after_nothing (c ∷ piece) zero h = refl
after_nothing (c ∷ piece) (suc i) h = after_nothing piece i (omega (arith, h))

pub empty : (t : List ℕ) → length t < 1 → t ≡ []
empty [] h = refl
empty (c ∷ t) h = absurd (omega (arith, h))

-- the text has ended before the piece
pub after_empty : (piece items text rest : List ℕ) (i : ℕ) → items ≡ piece → i < length items → length rest < 1 →
    after (drop i piece) rest ≡ after piece text → None ≡ after piece text
after_empty piece items text rest i same below none inv =
    let lengths = ap length same in
    sym (after_nothing piece i (omega (arith, lengths, below))) ∙ ap (after (drop i piece)) (sym (empty rest none)) ∙ inv
