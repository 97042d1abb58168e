-- A slice of a token's form that stands before a blank is a token.
use Rattle.std.proofs.Common.{◌≡◌, ◌⊎◌, refl, ap, sym, ◌∙◌, inl, inr, ℕ, zero, suc, ◌≤◌, Bool, true, false, List, [], ◌∷◌, ◌++◌, length, length-append, take, Some, IsUtf8, arith}
use Rattle.std.specs.Prelude.{◌&&◌, ◌||◌, ◌==◌, bytes_eq}
use Rattle.std.proofs.Math.Seq.{take-append_seam}
use Rattle.std.proofs.lemmas.Bool.{eqb-true}
use Rattle.std.proofs.lemmas.Str.{IsUtf8-drop, IsCharBoundary-after_ascii}
use Rattle.rust_lex.specs.declared.token.Kind.{Kind}
use Rattle.rust_lex.specs.declared.token.Form.{Form}
use Rattle.rust_lex.specs.declared.token.Form.TheVariants.{Identifier, Lifetime, Number, Quoted, Mark}
use Rattle.rust_lex.specs.Characters.{begins}
use Rattle.rust_lex.specs.Comments.{begins_comment}
use Rattle.rust_lex.specs.Identifiers.{is_identifier, is_lifetime}
use Rattle.rust_lex.specs.Lexing.{IsToken, is_form, kind_of, is_string, closes_string}
use Rattle.print_lexed.proofs.Blanks.{has_blank, none, and_first, and_second, blank_between, mark_pure, digits_pure, number_pure, identifier_pure}

-- what is longer goes on over the blank
longer : (w rest : List ℕ) (m : ℕ) → (m ≤ length w) ⊎ ((v : List ℕ) × (take m (w ++ (32 ∷ rest)) ≡ w ++ (32 ∷ v)))
longer w rest zero = inl (omega arith)
longer [] rest (suc m) = inr (take m rest, refl)
longer (c ∷ w) rest (suc m) = by_rest (longer w rest m) where
  by_rest : (m ≤ length w) ⊎ ((v : List ℕ) × (take m (w ++ (32 ∷ rest)) ≡ w ++ (32 ∷ v))) → (suc m ≤ length (c ∷ w)) ⊎ ((v : List ℕ) × (take (suc m) (c ∷ w ++ (32 ∷ rest)) ≡ c ∷ w ++ (32 ∷ v)))
  by_rest (inl h) = inl (omega (arith, h))
  by_rest (inr x) = inr (x.0, ap (λ y. c ∷ y) x.1)

-- a string begins with `"`
string_begins : (w : List ℕ) → is_string w ≡ true → begins (λ c. c == 34) w ≡ true
string_begins [] h = h
string_begins (c ∷ w) h = and_first (c == 34) (closes_string false w) h

not_quoted : (w v : List ℕ) → begins (λ c. c == 34) w ≡ false → is_string (w ++ (32 ∷ v)) ≡ true → ⊥
not_quoted [] v k h = none (32 == 34) (string_begins (32 ∷ v) h) refl
not_quoted (c ∷ w) v k h = none (c == 34) (string_begins (c ∷ w ++ (32 ∷ v)) h) k

same_blank : (w d : List ℕ) → bytes_eq w d ≡ true → has_blank w ≡ has_blank d
same_blank [] [] h = refl
same_blank [] (d ∷ ds) h = absurd cc
same_blank (c ∷ w) [] h = absurd cc
same_blank (c ∷ w) (d ∷ ds) h = let e = eqb-true c d (and_first (c == d) (bytes_eq w ds) h) in let f = same_blank w ds (and_second (c == d) (bytes_eq w ds) h) in λ i. (e i == 32) || f i

or_is : (a b : Bool) → a || b ≡ true → (a ≡ true) ⊎ (b ≡ true)
or_is true b h = inl refl
or_is false b h = inr h

not_lifetime : (w v : List ℕ) → IsUtf8 w → is_lifetime (w ++ (32 ∷ v)) ≡ true → ⊥
not_lifetime [] v u h = none (32 == 39) (and_first (32 == 39) (is_identifier v || bytes_eq v (95 ∷ [])) h) refl
not_lifetime (c ∷ w) v u h =
    let e : c ≡ 39 = eqb-true c 39 (and_first (c == 39) (is_identifier (w ++ (32 ∷ v)) || bytes_eq (w ++ (32 ∷ v)) (95 ∷ [])) h) in
    by_rest (or_is (is_identifier (w ++ (32 ∷ v))) (bytes_eq (w ++ (32 ∷ v)) (95 ∷ [])) (and_second (c == 39) (is_identifier (w ++ (32 ∷ v)) || bytes_eq (w ++ (32 ∷ v)) (95 ∷ [])) h)) (IsUtf8-drop (c ∷ w) 1 u (IsCharBoundary-after_ascii (c ∷ w) 0 u (omega arith) (omega (arith, e))))
  where
    by_rest : (is_identifier (w ++ (32 ∷ v)) ≡ true) ⊎ (bytes_eq (w ++ (32 ∷ v)) (95 ∷ []) ≡ true) → IsUtf8 w → ⊥
    by_rest (inl k) u = identifier_pure w v u k
    by_rest (inr k) u = none (has_blank (w ++ (32 ∷ v))) (blank_between w v) (same_blank (w ++ (32 ∷ v)) (95 ∷ []) k)

no_form : (dot : Bool) (g : Form) (w v : List ℕ) → IsUtf8 w → begins (λ c. c == 34) w ≡ false → is_form dot g (w ++ (32 ∷ v)) ≡ true → ⊥
no_form dot Identifier w v u q h = identifier_pure w v u h
no_form dot Lifetime w v u q h = not_lifetime w v u h
no_form false Number w v u q h = number_pure (w ++ (32 ∷ v)) h (blank_between w v)
no_form true Number w v u q h = none (has_blank (w ++ (32 ∷ v))) (blank_between w v) (digits_pure (w ++ (32 ∷ v)) h)
no_form dot Quoted w v u q h = not_quoted w v q h
no_form dot Mark w v u q h = none (has_blank (w ++ (32 ∷ v))) (blank_between w v) (mark_pure (w ++ (32 ∷ v)) h)

no_comment : (w rest : List ℕ) → begins_comment w ≡ false → begins_comment (w ++ (32 ∷ rest)) ≡ false
no_comment [] rest h = refl
no_comment (c ∷ []) rest h = by_test (c == 47) where
  by_test : (b : Bool) → (b && false) || (b && false) ≡ false
  by_test true = refl
  by_test false = refl
no_comment (c ∷ d ∷ w) rest h = h

-- no form goes on over the blank
pub before_blank : (dot : Bool) (form : Form) (kind : Kind) (w rest : List ℕ) → IsUtf8 w → begins (λ c. c == 34) w ≡ false → begins_comment w ≡ false → is_form dot form w ≡ true → kind_of form w ≡ Some kind →
    IsToken dot (length w) kind (w ++ (32 ∷ rest))
before_blank dot form kind w rest u q k f is =
    let e : take (length w) (w ++ (32 ∷ rest)) ≡ w = take-append_seam w (32 ∷ rest) in
    record {
      form = form;
      longest = record {
        within = let l = length-append w (32 ∷ rest) in omega (arith, l);
        is = ap (is_form dot form) e ∙ f;
        longest = λ g m l h. by_length g m h (longer w rest m);
      };
      no_comment = no_comment w rest k;
      is_kind = ap (kind_of form) e ∙ is;
    }
  where
    by_length : (g : Form) (m : ℕ) → is_form dot g (take m (w ++ (32 ∷ rest))) ≡ true → (m ≤ length w) ⊎ ((v : List ℕ) × (take m (w ++ (32 ∷ rest)) ≡ w ++ (32 ∷ v))) → m ≤ length w
    by_length g m h (inl l) = l
    by_length g m h (inr x) = absurd (no_form dot g w x.0 u q (sym (ap (is_form dot g) x.1) ∙ h))
