-- Identifiers, words and marks are lexed as themselves before a blank.
use Rattle.std.proofs.Common.{◌≡◌, refl, ap, sym, subst, ◌∙◌, ℕ, ◌<◌, Bool, true, false, List, [], ◌∷◌, ◌++◌, length, Some, None, IsUtf8, chars, encode_utf8_all, codes, arith}
use Rattle.std.specs.Prelude.{◌&&◌, ◌||◌, ◌==◌, not, bytes_eq, if◌then◌else◌}
use Rattle.std.specs.List.{list_all}
use Rattle.std.specs.Char.{is_ascii_alphabetic, is_ascii_alphanumeric, is_ascii_digit}
use Rattle.std.specs.Str.{is_utf8, IsAscii}
use Rattle.std.proofs.lemmas.Bool.{eqb-true}
use Rattle.std.proofs.lemmas.Bool.Decides.{nat_tests}
use Rattle.std.proofs.lemmas.Str.{chars-nil, chars-IsAscii, encodes-chars, IsUtf8-from_ascii, IsUtf8-from_is_utf8, is_utf8-from_IsUtf8}
use Rattle.std.proofs.lemmas.Str.Ascii.{All-from_ascii}
use Rattle.unicode_ident.specs.Ident.{is_xid_continue}
use Rattle.unicode_ident.proofs.IdentLemmas.{is_xid_start-ascii, is_xid_continue-ascii}
use Rattle.unicode_normalization.specs.Forms.{Nfc, nfc}
use Rattle.unicode_normalization.proofs.FormsLemmas.{normalize-ascii}
use Rattle.rust_lex.specs.declared.token.Kind.{Kind}
use Rattle.rust_lex.specs.declared.token.Kind.TheVariants as K
use Rattle.rust_lex.specs.declared.token.Form.{Form}
use Rattle.rust_lex.specs.declared.token.Form.TheVariants.{Identifier}
use Rattle.rust_lex.specs.Characters.{begins}
use Rattle.rust_lex.specs.Comments.{begins_comment}
use Rattle.rust_lex.specs.Identifiers.{starts_identifier, are_identifier, is_identifier, is_named, name_of, word_kind}
use Rattle.rust_lex.specs.Lexing.{IsToken, is_form, kind_of}
use Rattle.source_grammar.specs.declared.class.Class.TheVariants as C
use Rattle.source_grammar.specs.Spelled.{class_named}
use Rattle.source_syntax.specs.Spelled as S
use Rattle.rust_printer.specs.Tok.{Tok, named, placed, spelling, after, class_of, content_of, is_place}
use Rattle.print_lexed.proofs.Blanks.{none, and_first, and_second, chars_low, and_both, ascii_of, low_digit}
use Rattle.print_lexed.proofs.BlankTokens.{before_blank}
use Rattle.print_lexed.proofs.Sequences.{IsLexed}

-- a token that a blank follows, directly after a dot or not
pub of_form_at : (dot : Bool) (t : Tok) (form : Form) (kind : Kind) → after t ≡ codes " " → 0 < length (spelling t) → IsUtf8 (spelling t) → begins (λ c. c == 34) (spelling t) ≡ false → begins_comment (spelling t) ≡ false →
    is_form dot form (spelling t) ≡ true → kind_of form (spelling t) ≡ Some kind → S.class_of kind dot (spelling t) ≡ class_of t → S.content_of kind dot (spelling t) ≡ content_of t → IsLexed dot t
of_form_at dot t form kind blank some u q k f is class content = record {
  kind = kind;
  some = some;
  is = λ rest. subst (λ a. IsToken dot (length (spelling t)) kind (spelling t ++ (a ++ rest))) (sym blank) (before_blank dot form kind (spelling t) rest u q k f is);
  class = class;
  content = content;
}

pub of_form : (t : Tok) (form : Form) (kind : Kind) → after t ≡ codes " " → 0 < length (spelling t) → IsUtf8 (spelling t) → begins (λ c. c == 34) (spelling t) ≡ false → begins_comment (spelling t) ≡ false →
    is_form false form (spelling t) ≡ true → kind_of form (spelling t) ≡ Some kind → S.class_of kind false (spelling t) ≡ class_of t → S.content_of kind false (spelling t) ≡ content_of t → IsLexed false t
of_form t form kind blank some u q k f is class content = of_form_at false t form kind blank some u q k f is class content

-- ---- identifiers

-- an identifier in normal form that is no word
pub record IsNormal (w : List ℕ) : Type 0 where
  pub identifier : is_identifier w ≡ true
  pub normal : nfc (chars w) ≡ chars w

pub starts_low : (c : ℕ) → c < 128 → is_ascii_alphabetic c ≡ false → c == 95 ≡ false → starts_identifier c ≡ false
starts_low c l h k = (λ i. (is_xid_start-ascii c l i) || (c == 95)) ∙ (λ i. h i || k i)

-- the first byte, if it is one of ASCII
pub first_byte : (c : ℕ) (w : List ℕ) → is_identifier (c ∷ w) ≡ true → c < 128 → starts_identifier c ≡ true
unfolding is_identifier
first_byte c w h l =
    let a : are_identifier (chars (c ∷ w)) ≡ true = and_second (is_utf8 (c ∷ w)) (are_identifier (chars (c ∷ w))) h in
    let b = and_first (begins starts_identifier (chars (c ∷ w))) (list_all is_xid_continue (chars (c ∷ w))) (and_first (begins starts_identifier (chars (c ∷ w)) && list_all is_xid_continue (chars (c ∷ w))) (not (bytes_eq (chars (c ∷ w)) (95 ∷ []))) a) in
    sym (ap (begins starts_identifier) (chars_low c w l)) ∙ b

pub no_quote : (w : List ℕ) → is_identifier w ≡ true → begins (λ c. c == 34) w ≡ false
no_quote [] h = refl
no_quote (c ∷ w) h = by_test (c == 34) refl where
  by_test : (b : Bool) → c == 34 ≡ b → c == 34 ≡ false
  by_test true e =
      let q : c ≡ 34 = eqb-true c 34 e in
      none (starts_identifier 34) (sym (ap starts_identifier q) ∙ first_byte c w h (omega (arith, q))) (starts_low 34 (omega arith) refl refl)
  by_test false e = e

pub and_none : (a b : Bool) → a ≡ false → a && b ≡ false
and_none true b h = absurd cc
and_none false b h = refl

pub no_slash : (w : List ℕ) → is_identifier w ≡ true → begins_comment w ≡ false
no_slash [] h = refl
no_slash (c ∷ w) h = both (by_test (c == 47) refl) where
  by_test : (b : Bool) → c == 47 ≡ b → c == 47 ≡ false
  by_test true e =
      let q : c ≡ 47 = eqb-true c 47 e in
      none (starts_identifier 47) (sym (ap starts_identifier q) ∙ first_byte c w h (omega (arith, q))) (starts_low 47 (omega arith) refl refl)
  by_test false e = e

  both : c == 47 ≡ false → begins_comment (c ∷ w) ≡ false
  both e = λ i. (and_none (c == 47) (begins (λ d. d == 47) w) e i) || (and_none (c == 47) (begins (λ d. d == 42) w) e i)

pub utf8_of : (w : List ℕ) → is_identifier w ≡ true → IsUtf8 w
unfolding is_identifier
utf8_of w h = IsUtf8-from_is_utf8 w (and_first (is_utf8 w) (are_identifier (chars w)) h)

pub some_byte : (w : List ℕ) → is_identifier w ≡ true → 0 < length w
unfolding is_identifier
some_byte [] h = none (are_identifier (chars [])) (and_second (is_utf8 []) (are_identifier (chars [])) h) (ap are_identifier chars-nil)
some_byte (c ∷ w) h = omega arith

pub named_by : (w : List ℕ) → IsNormal w → is_named w ≡ true
unfolding is_named is_identifier
named_by w n = ap are_identifier n.normal ∙ and_second (is_utf8 w) (are_identifier (chars w)) n.identifier

pub own_name : (w : List ℕ) → IsNormal w → name_of w ≡ w
own_name w n = ap encode_utf8_all n.normal ∙ encodes-chars w (utf8_of w n.identifier)

kind_by : (b : Bool) (k : Kind) → b ≡ true → (if b then Some k else None) ≡ Some k
kind_by true k h = refl
kind_by false k h = absurd cc

pub kind_is : (w : List ℕ) (k : Kind) → IsNormal w → word_kind w ≡ k → kind_of Identifier w ≡ Some k
kind_is w k n h = kind_by (is_named w) (word_kind (name_of w)) (named_by w n) ∙ ap (λ x. Some (word_kind x)) (own_name w n) ∙ ap (λ (x : Kind). Some x) h

pub name_lexed : (w : List ℕ) → IsNormal w → word_kind w ≡ K.Ident → IsLexed false (named w)
name_lexed w n h =
    of_form (named w) Identifier K.Ident refl (some_byte w n.identifier) (utf8_of w n.identifier) (no_quote w n.identifier) (no_slash w n.identifier) n.identifier (kind_is w K.Ident n h)
    (ap (λ x. class_named x C.Other) (own_name w n)) (ap (λ (x : List ℕ). content_of (named x)) (own_name w n))

-- digits are no identifier
no_digit : (c : ℕ) → is_ascii_digit c ≡ true → (is_ascii_alphabetic c ≡ false) × (c == 95 ≡ false)
no_digit c h = (grind (arith, nat_tests), grind (arith, nat_tests))

no_place : (w : List ℕ) → is_identifier w ≡ true → is_place w ≡ false
no_place [] h = refl
no_place (c ∷ w) h = and_none (is_ascii_digit c) (list_all is_ascii_digit w) (by_test (is_ascii_digit c) refl) where
  by_test : (b : Bool) → is_ascii_digit c ≡ b → is_ascii_digit c ≡ false
  by_test true e = none (starts_identifier c) (first_byte c w h (low_digit c e)) (starts_low c (low_digit c e) (no_digit c e).0 (no_digit c e).1)
  by_test false e = e

pub place_lexed : (w : List ℕ) → IsNormal w → word_kind w ≡ K.Ident → IsLexed true (placed w)
place_lexed w n h =
    of_form_at true (placed w) Identifier K.Ident refl (some_byte w n.identifier) (utf8_of w n.identifier) (no_quote w n.identifier) (no_slash w n.identifier) n.identifier (kind_is w K.Ident n h)
    (ap (λ x. class_named x C.Other) (own_name w n) ∙ sym (ap (λ b. if b then C.Digits else class_named w C.Other) (no_place w n.identifier))) (ap (λ (x : List ℕ). content_of (placed x)) (own_name w n))

-- ---- ASCII

low_letter : (c : ℕ) → is_ascii_alphanumeric c ≡ true → c < 128
low_letter c h = grind (arith, nat_tests)

goes_on : (w : List ℕ) → list_all is_ascii_alphanumeric w ≡ true → list_all is_xid_continue w ≡ true
goes_on [] h = refl
goes_on (c ∷ w) h =
    let a = and_first (is_ascii_alphanumeric c) (list_all is_ascii_alphanumeric w) h in
    let e : is_xid_continue c ≡ true = is_xid_continue-ascii c (low_letter c a) ∙ (λ i. a i || (c == 95)) in
    (λ i. e i && list_all is_xid_continue w) ∙ goes_on w (and_second (is_ascii_alphanumeric c) (list_all is_ascii_alphanumeric w) h)

not_lone : (c : ℕ) (w : List ℕ) → is_ascii_alphabetic c ≡ true → not (bytes_eq (c ∷ w) (95 ∷ [])) ≡ true
not_lone c w h =
    let e : c == 95 ≡ false = grind (arith, nat_tests) in
    ap not (and_none (c == 95) (bytes_eq w []) e)

-- an identifier of ASCII
pub ascii_normal : (w : List ℕ) → begins is_ascii_alphabetic w ≡ true → list_all is_ascii_alphanumeric w ≡ true → IsNormal w
unfolding is_identifier
ascii_normal [] s h = absurd cc
ascii_normal (c ∷ w) s h =
    let low : IsAscii (c ∷ w) = ascii_of is_ascii_alphanumeric low_letter (c ∷ w) h in
    let cs : chars (c ∷ w) ≡ c ∷ w = chars-IsAscii (c ∷ w) low in
    let start : starts_identifier c ≡ true = (λ i. is_xid_start-ascii c (low_letter c (and_first (is_ascii_alphanumeric c) (list_all is_ascii_alphanumeric w) h)) i || (c == 95)) ∙ (λ i. s i || (c == 95)) in
    record {
      identifier = and_both (is_utf8 (c ∷ w)) (are_identifier (chars (c ∷ w))) (is_utf8-from_IsUtf8 (c ∷ w) (IsUtf8-from_ascii (c ∷ w) low)) (ap are_identifier cs ∙ and_both _ _ (and_both _ _ start (goes_on (c ∷ w) h)) (not_lone c w s));
      normal = ap nfc cs ∙ normalize-ascii Nfc (c ∷ w) (All-from_ascii (c ∷ w) low) ∙ sym cs;
    }
