-- DEF is cut at its first colon, in one way.
use Rattle.std.proofs.Common.{◌≡◌, refl, ◌∙◌, ap, sym, subst, inl, inr, ℕ, zero, suc, ◌<◌, ◌-◌, ◌+◌, Bool, true, false, List, [], ◌∷◌, ◌++◌, length, take, drop, arith}
use Rattle.std.specs.Prelude.{◌==◌, ◌&&◌, not, MatchOption, Option, None, Some, codes}
use Rattle.std.specs.List.{position_or_len, before_first, after_first, list_all, slice_split}
use Rattle.std.proofs.lemmas.Bool.Decides.{nat_tests}
use Rattle.std.specs.Str.Pattern.{FindsCharSuffix, StripsSuffix}
use Rattle.std.proofs.lemmas.Bool.{eqb-true}
use Rattle.std.proofs.lemmas.List.Sums.{split_at_first, passes_at_first}
use denote.Ref.{Bor}
use lib.Utf8.{encode}
use Rattle.aeneas.specs.DefinitionWord.{Lacks, IsDefinitionWord}
use Rattle.aeneas.specs.DefinitionParts.{IsOnly, IsAfterName}

abbrev is_byte : ℕ → ℕ → Bool
is_byte c b = b == c

same_byte : (c : ℕ) → (c == c) ≡ true
same_byte c = grind (arith, nat_tests)

-- a text with the byte is what stands before it, it, and what stands after
pub around : (c : ℕ) (s : List ℕ) → position_or_len (is_byte c) s < length s → s ≡ before_first (is_byte c) s ++ c ∷ after_first (is_byte c) s
around c s h =
    split_at_first (is_byte c) s 0 h ∙ ap (λ b. before_first (is_byte c) s ++ b ∷ after_first (is_byte c) s) (eqb-true _ c (passes_at_first (is_byte c) s 0 h))

and_right : (a b : Bool) → (a && b) ≡ true → b ≡ true
and_right true b h = h
and_right false b h = absurd cc

and_left : (a b : Bool) → (a && b) ≡ true → a ≡ true
and_left true b h = refl
and_left false b h = absurd cc

-- a text that has the byte doesn't lack it
pub lacks_not : (c : ℕ) (front back : List ℕ) → Lacks c (front ++ c ∷ back) → ⊥
lacks_not c [] back h = let k = and_left (not (c == c)) (list_all (λ b. not (b == c)) back) h in let e = same_byte c in cc
lacks_not c (b ∷ front) back h = lacks_not c front back (and_right (not (b == c)) (list_all (λ b. not (b == c)) (front ++ c ∷ back)) h)

-- where the first byte stands at the end, there is none
lacking_by : (t : Bool) (c : ℕ) (s : List ℕ) (b : ℕ) → (b == c) ≡ t → position_or_len (is_byte c) (b ∷ s) ≡ suc (length s) → (position_or_len (is_byte c) s ≡ length s → Lacks c s) → Lacks c (b ∷ s)
lacking_by true c s b e h f = absurd (let g : position_or_len (is_byte c) (b ∷ s) ≡ 0 = rw e refl in omega (arith, g, h))
lacking_by false c s b e h f =
    let g : position_or_len (is_byte c) (b ∷ s) ≡ 1 + position_or_len (is_byte c) s = rw e refl in rw e (f (omega (arith, g, h)))

pub lacking : (c : ℕ) (s : List ℕ) → position_or_len (is_byte c) s ≡ length s → Lacks c s
lacking c [] h = refl
lacking c (b ∷ s) h = lacking_by (b == c) c s b refl h (lacking c s)

-- what stands before the first lacks it
before_by : (t : Bool) (c : ℕ) (s : List ℕ) (b : ℕ) → (b == c) ≡ t → Lacks c (before_first (is_byte c) s) → Lacks c (before_first (is_byte c) (b ∷ s))
before_by true c s b e h = let g : position_or_len (is_byte c) (b ∷ s) ≡ 0 = rw e refl in rw g refl
before_by false c s b e h =
    let g : position_or_len (is_byte c) (b ∷ s) ≡ 1 + position_or_len (is_byte c) s = rw e refl in
    let n : 1 + position_or_len (is_byte c) s ≡ suc (position_or_len (is_byte c) s) = omega arith in
    subst (λ k. Lacks c (take k (b ∷ s))) (sym (g ∙ n)) (rw e h)

pub before_lacks : (c : ℕ) (s : List ℕ) → Lacks c (before_first (is_byte c) s)
before_lacks c [] = refl
before_lacks c (b ∷ s) = before_by (b == c) c s b refl (before_lacks c s)

not_true : (a : Bool) → not a ≡ true → a ≡ false
not_true true h = absurd cc
not_true false h = refl

-- two cuts at a byte that the fronts lack are one
pub one_cut : (c : ℕ) (a b x y : List ℕ) → Lacks c a → Lacks c b → a ++ c ∷ x ≡ b ++ c ∷ y → (a ≡ b) × (x ≡ y)
one_cut c [] [] x y la lb h = (refl, cc)
one_cut c [] (b ∷ bs) x y la lb h =
    let e : c ≡ b = cc in absurd (let k = and_left (not (b == c)) (list_all (λ d. not (d == c)) bs) lb in let s = same_byte c in let t : (b == c) ≡ true = ap (λ d. d == c) (sym e) ∙ s in cc)
one_cut c (a ∷ r) [] x y la lb h =
    let e : a ≡ c = cc in absurd (let k = and_left (not (a == c)) (list_all (λ d. not (d == c)) r) la in let s = same_byte c in let t : (a == c) ≡ true = ap (λ d. d == c) e ∙ s in cc)
one_cut c (a ∷ r) (b ∷ q) x y la lb h =
    let e : a ≡ b = cc in
    let g : r ++ c ∷ x ≡ q ++ c ∷ y = cc in
    let w = one_cut c r q x y (and_right (not (a == c)) _ la) (and_right (not (b == c)) _ lb) g in
    ((λ i. e i ∷ w.0 i), w.1)

-- a text without its last `>`
none_left : {A : Type 0} (xs : List A) → drop (length xs) xs ≡ []
none_left [] = refl
none_left (x ∷ xs) = none_left xs

cut_in_two : {A : Type 0} (k : ℕ) (xs : List A) → xs ≡ take k xs ++ drop k xs
cut_in_two zero xs = refl
cut_in_two (suc k) [] = refl
cut_in_two (suc k) (x ∷ xs) = ap (λ z. x ∷ z) (cut_in_two k xs)

pub stripped : (s : List ℕ) (r : Option (Bor (List ℕ))) → MatchOption r (FindsCharSuffix 62 s None) (λ x. StripsSuffix (FindsCharSuffix 62) s x.now) →
    MatchOption r ((inner : List ℕ) → s ≡ inner ++ codes ">" → ⊥) (λ x. s ≡ x.now ++ codes ">")
unfolding encode
stripped s None h = h
stripped s (Some x) h =
    let n = h.0 in
    let last : drop (length s - n) s ≡ codes ">" = h.1.1.split ∙ ap (λ z. 62 ∷ z) (none_left s) in
    cut_in_two (length s - n) s ∙ (λ i. sym h.2 i ++ last i)

-- what stands after `:<`, where the text begins so
pub after_name : (rest colon after : List ℕ) → colon ≡ before_first (is_byte 60) rest → after ≡ after_first (is_byte 60) rest → position_or_len (is_byte 60) rest < length rest → colon ≡ codes ":" →
    rest ≡ codes ":<" ++ after
after_name rest colon after b a h e = around 60 rest h ∙ (λ i. (sym b ∙ e) i ++ 60 ∷ sym a i)

pub types_of : (rest after : List ℕ) (r : Option (Bor (List ℕ))) → rest ≡ codes ":<" ++ after → MatchOption r ((inner : List ℕ) → after ≡ inner ++ codes ">" → ⊥) (λ x. after ≡ x.now ++ codes ">") →
    MatchOption r ((inner : List ℕ) → IsAfterName rest inner → ⊥) (λ x. IsAfterName rest x.now)
types_of rest after None e h = λ inner g. h inner (let q = sym e ∙ g in cc)
types_of rest after (Some x) e h = e ∙ ap (λ z. codes ":<" ++ z) h

-- a word without a colon is a name alone
alone_by : (word other : List ℕ) (more : List (List ℕ)) → Lacks 58 word → IsDefinitionWord word other more → other ≡ word
alone_by word other more h (inl g) = sym g.word_is
alone_by word other more h (inr g) = absurd (lacks_not 58 other _ (subst (Lacks 58) g.word_is h))

pub name_alone : (word : List ℕ) → position_or_len (is_byte 58) word ≡ length word → IsOnly word word []
name_alone word h = record {
  parts = inl (record { word_is = refl; colons = lacking 58 word h; none = refl });
  only = λ other more g. alone_by word other more (lacking 58 word h) g;
}

-- a word with a colon is a name with types, or nothing
pub unformed : (word name rest : List ℕ) → word ≡ name ++ 58 ∷ rest → Lacks 58 name → ((inner : List ℕ) → IsAfterName rest inner → ⊥) →
    (other : List ℕ) (more : List (List ℕ)) → IsDefinitionWord word other more → ⊥
unformed word name rest e l h other more (inl g) = lacks_not 58 name rest (subst (Lacks 58) (sym g.word_is ∙ e) g.colons)
unformed word name rest e l h other more (inr g) =
    let q = one_cut 58 name other rest _ l g.colons (sym e ∙ g.word_is) in h g.inner q.1

named_by : (word name rest other : List ℕ) (more : List (List ℕ)) → word ≡ name ++ 58 ∷ rest → Lacks 58 name → IsDefinitionWord word other more → other ≡ name
named_by word name rest other more e l (inl g) = absurd (lacks_not 58 name rest (subst (Lacks 58) (sym g.word_is ∙ e) g.colons))
named_by word name rest other more e l (inr g) = sym (one_cut 58 name other rest _ l g.colons (sym e ∙ g.word_is)).0

pub with_types : (word name rest inner : List ℕ) (pieces : List (List ℕ)) → word ≡ name ++ 58 ∷ rest → Lacks 58 name → IsAfterName rest inner →
    pieces ≡ slice_split (λ b. b == 44) inner → IsOnly word name pieces
with_types word name rest inner pieces e l h cut = record {
  parts = inr (record { inner = inner; word_is = e ∙ ap (λ z. name ++ 58 ∷ z) h; colons = l; cut = cut });
  only = λ other more g. named_by word name rest other more e l g;
}

pub not_false : (b : Bool) → false ≡ not b → b ≡ true
not_false true h = refl
not_false false h = absurd cc
