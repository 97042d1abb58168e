-- Each token's text is the slice in its place.
use Rattle.std.proofs.Common.{◌≡◌, refl, ap, sym, subst, ◌∙◌, ℕ, zero, suc, ◌+◌, ◌-◌, ◌≤◌, Bool, true, false, List, [], ◌∷◌, length, length-drop, take, drop, append-nil, All, Option, Some, None, is_some, IsUtf8, arith}
use Rattle.std.specs.Prelude.{◌&&◌, ◌==◌, if◌then◌else◌, bytes_eq, codes}
use Rattle.std.specs.List.{list_all}
use Rattle.std.specs.Char.{is_ascii_digit}
use Rattle.std.proofs.lemmas.Bool.Decides.{nat_tests}
use Rattle.std.proofs.lemmas.List.{drop-drop}
use Rattle.std.proofs.lemmas.Str.{IsUtf8-drop, IsCharBoundary-from_drop}
use Rattle.aen_base.specs.declared.span.Span.{Span}
use Rattle.rust_lex.specs.declared.token.Base.TheVariants.{Decimal}
use Rattle.rust_lex.specs.declared.token.Form.{Form}
use Rattle.rust_lex.specs.declared.token.Form.TheVariants.{Identifier, Lifetime, Number, Quoted, Mark}
use Rattle.rust_lex.specs.declared.token.Kind.{Kind}
use Rattle.rust_lex.specs.declared.token.Kind.TheVariants as K
use Rattle.rust_lex.specs.declared.token.Token.{Token}
use Rattle.rust_lex.specs.Characters.{begins, back}
use Rattle.rust_lex.specs.Words.{is_word, is_excluded}
use Rattle.rust_lex.specs.Identifiers.{is_named, name_of, word_kind, lifetime_kind}
use Rattle.rust_lex.specs.Numbers.{is_number, are_digits, is_small, base_of, prefix_length, goes_on, is_digit_of, is_suffix, integer_of}
use Rattle.rust_lex.specs.Lexing.{is_form, kind_of, IsToken, token, is_dot, Lexes, ends, gap, next, fault, AreTokens}
use Rattle.rust_lex.specs.Slices.{IsTokenOf, AreInText}
use Rattle.rust_lex.proofs.TestLemmas.{by_test, if_true, and_left, and_right, and_both, and_false, some_same}
use Rattle.rust_lex.proofs.FrontLemmas.{back_all}
use Rattle.rust_lex.proofs.NumberLemmas.{decimal_digit, number_in}
use Rattle.rust_lex.proofs.LexingLemmas.{gap_advances, token_advances}

-- ---- an integer has a value

no_letter : (x : ℕ) (w : List ℕ) → is_ascii_digit x ≡ false → list_all is_ascii_digit w ≡ true → begins (λ d. d == x) w ≡ false
no_letter x [] n h = refl
no_letter x (c ∷ w) n h = let k = and_left (is_ascii_digit c) (list_all is_ascii_digit w) h in grind (arith, nat_tests)

decimal_base : (c : ℕ) (w : List ℕ) → list_all is_ascii_digit w ≡ true → base_of (c ∷ w) ≡ Decimal
decimal_base c w h = rw (no_letter 120 w refl h, no_letter 111 w refl h, no_letter 98 w refl h, and_false (c == 48)) refl

digit_goes : (c : ℕ) → is_ascii_digit c ≡ true → goes_on Decimal c ≡ true
digit_goes c h = grind (arith, nat_tests)

all_go : (w : List ℕ) → list_all is_ascii_digit w ≡ true → list_all (goes_on Decimal) w ≡ true
all_go [] h = refl
all_go (c ∷ w) h = and_both (goes_on Decimal c) (list_all (goes_on Decimal) w) (digit_goes c (and_left (is_ascii_digit c) (list_all is_ascii_digit w) h)) (all_go w (and_right (is_ascii_digit c) (list_all is_ascii_digit w) h))

nothing_behind : (w : List ℕ) → list_all (goes_on Decimal) w ≡ true → back (goes_on Decimal) w ≡ []
nothing_behind w h = ap (back (goes_on Decimal)) (sym (append-nil w)) ∙ back_all (goes_on Decimal) w [] h refl

digits_number : (w : List ℕ) → are_digits w ≡ true → is_number w ≡ true
unfolding is_number
digits_number [] h = absurd cc
digits_number (c ∷ w) h =
    let d = and_left (is_ascii_digit c) (list_all is_ascii_digit w) h in
    let r = and_right (is_ascii_digit c) (list_all is_ascii_digit w) h in
    ap (λ b. number_in b (drop (prefix_length b) (c ∷ w))) (decimal_base c w r)
    ∙ and_both (is_digit_of Decimal c) (is_suffix (back (goes_on Decimal) (c ∷ w))) (decimal_digit c d) (ap is_suffix (nothing_behind (c ∷ w) (all_go (c ∷ w) h)))

form_number : (dot : Bool) (w : List ℕ) → is_form dot Number w ≡ true → is_number w ≡ true
form_number false w h = h
form_number true w h = digits_number w h

small_kind : (b : Bool) → (if b then Some K.Integer else None) ≡ Some K.Integer → b ≡ true
small_kind true h = refl
small_kind false h = absurd cc

some_integer : (w : List ℕ) → is_number w ≡ true → is_small w ≡ true → is_some (integer_of w) ≡ true
some_integer w h k = ap is_some (if_true (is_number w && is_small w) _ None (and_both (is_number w) (is_small w) h k))

word_no_integer : (name : List ℕ) → word_kind name ≡ K.Integer → ⊥
word_no_integer name h =
    by_test (is_word name) K.Word (if is_excluded name then K.Excluded else K.Ident) K.Integer h (λ t e. cc) (λ t e.
    by_test (is_excluded name) K.Excluded K.Ident K.Integer e (λ u e. cc) (λ u e. cc))

lifetime_no_integer : (w : List ℕ) → lifetime_kind w ≡ Some K.Integer → ⊥
lifetime_no_integer w h =
    by_test (bytes_eq w (95 ∷ [])) (Some K.Lifetime) _ (Some K.Integer) h (λ t e. cc) (λ t e.
    by_test (is_named w) (if bytes_eq (name_of w) (codes "static") then Some K.Excluded else Some K.Lifetime) None (Some K.Integer) e
    (λ u e. by_test (bytes_eq (name_of w) (codes "static")) (Some K.Excluded) (Some K.Lifetime) (Some K.Integer) e (λ v e. cc) (λ v e. cc))
    (λ u e. cc))

value_of : (dot : Bool) (f : Form) (w : List ℕ) → is_form dot f w ≡ true → kind_of f w ≡ Some K.Integer → is_some (integer_of w) ≡ true
value_of dot Identifier w h k =
    by_test (is_named w) (Some (word_kind (name_of w))) None (Some K.Integer) k
    (λ t e. absurd (word_no_integer (name_of w) (some_same (word_kind (name_of w)) K.Integer e)))
    (λ t e. absurd cc)
value_of dot Lifetime [] h k = absurd cc
value_of dot Lifetime (c ∷ w) h k = absurd (lifetime_no_integer w k)
value_of dot Number w h k = some_integer w (form_number dot w h) (small_kind (is_small w) k)
value_of dot Quoted w h k = absurd cc
value_of dot Mark w h k = absurd cc

-- ---- each token

one_token : (text : List ℕ) (at n : ℕ) (dot : Bool) (kind : Kind) → at ≤ length text → IsUtf8 (drop at text) → IsToken dot n kind (drop at text) →
    at + n ≤ length text → IsUtf8 (drop (at + n) text) → IsTokenOf text (token kind at n)
one_token text at n dot kind l u t k v =
    let e : at + n - at ≡ n = omega arith in
    let s = ap (λ m. take m (drop at text)) e in
    record {
      order = omega arith;
      begins = IsCharBoundary-from_drop text at l u;
      ends = IsCharBoundary-from_drop text (at + n) k v;
      after_dot = dot;
      form = t.form;
      is = ap (is_form dot t.form) s ∙ t.longest.is;
      is_kind = ap (kind_of t.form) s ∙ t.is_kind;
      value = λ q. ap (λ w. is_some (integer_of w)) s ∙ value_of dot t.form (take n (drop at text)) t.longest.is (t.is_kind ∙ ap (λ x. Some x) q);
    }

on : (text : List ℕ) (at n : ℕ) (rest : List ℕ) → rest ≡ drop at text → drop n rest ≡ drop (at + n) text
on text at n rest e = ap (drop n) e ∙ drop-drop n at text

inside : (text : List ℕ) (at n : ℕ) (rest : List ℕ) → rest ≡ drop at text → at ≤ length text → n ≤ length rest → at + n ≤ length text
inside text at n rest e l k = let d = ap length e ∙ length-drop at text in omega arith

each_token : (text : List ℕ) (at : ℕ) (dot : Bool) (rest : List ℕ) (ts : List Token) (bad : Option Span) → Lexes at dot rest ts bad →
    rest ≡ drop at text → at ≤ length text → IsUtf8 rest → AreInText text ts
each_token text at dot rest ts bad (ends) e l u = tt
each_token text at dot rest ts bad (gap {n = n} g m) e l u =
    let a = gap_advances n rest u g in
    each_token text (at + n) false (drop n rest) ts bad m (on text at n rest e) (inside text at n rest e l a.within) (IsUtf8-drop rest n u a.boundary)
each_token text at dot rest ts bad (next {n = n} {ts = us} {kind = kind} t m) e l u =
    let a = token_advances dot n kind rest u t in
    let v = IsUtf8-drop rest n u a.boundary in
    let w = inside text at n rest e l a.within in (
      one_token text at n dot kind l (subst IsUtf8 e u) (subst (IsToken dot n kind) e t) w (subst IsUtf8 (on text at n rest e) v),
      each_token text (at + n) (is_dot (take n rest)) (drop n rest) us bad m (on text at n rest e) w v,
    )
each_token text at dot rest ts bad (fault f) e l u = tt

each_all : (text : List ℕ) (ts : List Token) → AreInText text ts → All (IsTokenOf text) ts
each_all text [] h k d l = absurd (omega arith)
each_all text (t ∷ ts) h zero d l = h.0
each_all text (t ∷ ts) h (suc k) d l = each_all text ts h.1 k d (omega arith)

-- the tokens of a text
pub are_in_text : (text : List ℕ) (ts : List Token) (bad : Option Span) → IsUtf8 text → AreTokens text ts bad → AreInText text ts
are_in_text text ts bad u h = each_token text 0 false text ts bad h refl (omega arith) u

pub all_texts : (text : List ℕ) (ts : List Token) (bad : Option Span) → IsUtf8 text → AreTokens text ts bad → All (IsTokenOf text) ts
all_texts text ts bad u h = each_all text ts (are_in_text text ts bad u h)
