-- The first byte of a token tells its form; `_` alone is a mark.
use Rattle.std.proofs.Common.{◌≡◌, refl, ap, sym, subst, ◌∙◌, ℕ, ◌<◌, Bool, true, false, List, [], ◌∷◌, ◌++◌, length, drop, chars, arith}
use Rattle.std.specs.Prelude.{◌&&◌, ◌||◌, ◌==◌, not, nat_le, nat_lt, if◌then◌else◌, bytes_eq}
use Rattle.std.specs.List.{list_all, list_any}
use Rattle.std.specs.Char.{is_ascii_digit, is_ascii_alphabetic}
use Rattle.std.proofs.Math.Utf8.{encodes}
use Rattle.std.proofs.lemmas.Bool.{eqb-true}
use Rattle.std.proofs.lemmas.Bool.Decides.{nat_tests}
use Rattle.std.proofs.lemmas.Str.{encodes-chars, chars-encodes, char_from_byte, encode_ascii, length-le-encodes}
use Rattle.unicode_ident.specs.Ident.{is_xid_start}
use Rattle.unicode_ident.proofs.IdentLemmas.{is_xid_start-ascii}
use Rattle.rust_lex.specs.declared.token.Form.{Form}
use Rattle.rust_lex.specs.declared.token.Form.TheVariants.{Identifier, Lifetime, Number, Quoted, Mark}
use Rattle.rust_lex.specs.declared.token.Base.TheVariants.{Decimal}
use Rattle.rust_lex.specs.Characters.{begins, begins_two, is_white}
use Rattle.rust_lex.specs.Identifiers.{is_identifier, starts_identifier}
use Rattle.rust_lex.specs.Numbers.{is_number, base_of, after_prefix, is_digit_of, prefix_length}
use Rattle.rust_lex.specs.Punctuation.{is_mark, is_single, is_double, is_triple, single_marks, double_marks, triple_marks}
use Rattle.rust_lex.specs.Lexing.{is_form}
use Rattle.rust_lex.proofs.TestLemmas.{if_true, if_false, and_left, and_right, or_cases, clash, same_bytes}
use Rattle.rust_lex.proofs.IdentifierLemmas.{spelled}

-- a byte that an identifier may begin with
abbrev pub is_letter : ℕ → Bool
is_letter c = nat_le 128 c || (is_ascii_alphabetic c || (c == 95))

-- a byte with which punctuation alone begins, or `_`
abbrev pub is_mark_byte : ℕ → Bool
is_mark_byte c = (nat_lt c 128 && not (is_ascii_digit c)) && ((not (c == 34) && not (c == 39)) && (not (is_ascii_alphabetic c) && not (is_white c)))

-- the first byte of each form
abbrev pub fits_first : Form → ℕ → Bool
fits_first Identifier c = is_letter c
fits_first Lifetime c = c == 39
fits_first Number c = is_ascii_digit c
fits_first Quoted c = c == 34
fits_first Mark c = is_mark_byte c

-- ---- numbers

decimal_ascii : (c : ℕ) → is_digit_of Decimal c ≡ true → is_ascii_digit c ≡ true
decimal_ascii c h = grind (arith, nat_tests)

zero_digit : (c : ℕ) → (c == 48) ≡ true → is_ascii_digit c ≡ true
zero_digit c h = ap is_ascii_digit (eqb-true c 48 h)

number_first : (c : ℕ) (w : List ℕ) → is_number (c ∷ w) ≡ true → is_ascii_digit c ≡ true
unfolding is_number
number_first c w h =
    by_base (begins_two 48 120 (c ∷ w)) (begins_two 48 111 (c ∷ w)) (begins_two 48 98 (c ∷ w)) refl refl refl (and_left _ _ h)
  where
    by_base : (x y z : Bool) → begins_two 48 120 (c ∷ w) ≡ x → begins_two 48 111 (c ∷ w) ≡ y → begins_two 48 98 (c ∷ w) ≡ z →
        begins (is_digit_of (base_of (c ∷ w))) (after_prefix (c ∷ w)) ≡ true → is_ascii_digit c ≡ true
    by_base true y z e f g k = zero_digit c (and_left _ _ e)
    by_base false true z e f g k = zero_digit c (and_left _ _ f)
    by_base false false true e f g k = zero_digit c (and_left _ _ g)
    by_base false false false e f g k =
        let d : base_of (c ∷ w) ≡ Decimal = if_false (begins_two 48 120 (c ∷ w)) _ _ e ∙ if_false (begins_two 48 111 (c ∷ w)) _ _ f ∙ if_false (begins_two 48 98 (c ∷ w)) _ _ g in
        decimal_ascii c (sym (ap (λ b. begins (is_digit_of b) (drop (prefix_length b) (c ∷ w))) d) ∙ k)

-- ---- identifiers

starts_letter : (c : ℕ) → c < 128 → starts_identifier c ≡ true → is_letter c ≡ true
starts_letter c l h = by_start (is_xid_start c) refl
  where
    by_start : (b : Bool) → is_xid_start c ≡ b → is_letter c ≡ true
    by_start true e = let a : is_ascii_alphabetic c ≡ true = sym (is_xid_start-ascii c l) ∙ e in grind (arith, nat_tests)
    by_start false e = let a : (c == 95) ≡ true = sym (ap (λ b. b || (c == 95)) e) ∙ h in grind (arith, nat_tests)

high_letter : (c : ℕ) → nat_lt c 128 ≡ false → is_letter c ≡ true
high_letter c h = grind (arith, nat_tests)

test_lt : (m n : ℕ) → nat_lt m n ≡ true → m < n
test_lt m n h = grind (arith, nat_tests)

chars_first : (c : ℕ) (w cs : List ℕ) → encodes cs ≡ c ∷ w → c < 128 → begins starts_identifier cs ≡ true → starts_identifier c ≡ true
chars_first c w [] e l h = absurd cc
chars_first c w (k ∷ ks) e l h = subst (λ x. starts_identifier x ≡ true) (char_from_byte (c ∷ w) (encodes ks) k (sym e) l (omega arith)) h

identifier_first : (c : ℕ) (w : List ℕ) → is_identifier (c ∷ w) ≡ true → is_letter c ≡ true
identifier_first c w h = by_low (nat_lt c 128) refl
  where
    by_low : (b : Bool) → nat_lt c 128 ≡ b → is_letter c ≡ true
    by_low true e =
        let s = spelled (c ∷ w) h in
        let l = test_lt c 128 e in
        starts_letter c l (chars_first c w (chars (c ∷ w)) (encodes-chars (c ∷ w) s.utf8) l s.starts)
    by_low false e = high_letter c e

pub no_lone_identifier : is_identifier (95 ∷ []) ≡ true → ⊥
no_lone_identifier h =
    let s = spelled (95 ∷ []) h in
    let e : encodes (95 ∷ []) ≡ 95 ∷ [] = ap (λ x. x ++ []) (encode_ascii 95 (omega arith)) in
    let c : chars (95 ∷ []) ≡ 95 ∷ [] = sym (ap chars e) ∙ chars-encodes (95 ∷ []) refl in
    clash (bytes_eq (chars (95 ∷ [])) (95 ∷ [])) (ap (λ x. bytes_eq x (95 ∷ [])) c) s.no_underscore

-- ---- punctuation

any_byte : (p : ℕ → Bool) (c : ℕ) (ds : List ℕ) → list_all p ds ≡ true → list_any (λ d. c == d) ds ≡ true → p c ≡ true
any_byte p c [] h k = absurd cc
any_byte p c (d ∷ ds) h k =
    or_cases (c == d) (list_any (λ d. c == d) ds) k
    (λ e. ap p (eqb-true c d e) ∙ and_left (p d) (list_all p ds) h)
    (λ e. any_byte p c ds (and_right (p d) (list_all p ds) h) e)

any_first : (p : ℕ → Bool) (c : ℕ) (w : List ℕ) (ms : List (List ℕ)) → list_all (begins p) ms ≡ true → list_any (bytes_eq (c ∷ w)) ms ≡ true → p c ≡ true
any_first p c w [] h k = absurd cc
any_first p c w (m ∷ ms) h k =
    or_cases (bytes_eq (c ∷ w) m) (list_any (bytes_eq (c ∷ w)) ms) k
    (λ e. ap (begins p) (same_bytes (c ∷ w) m e) ∙ and_left (begins p m) (list_all (begins p) ms) h)
    (λ e. any_first p c w ms (and_right (begins p m) (list_all (begins p) ms) h) e)

mark_first : (c : ℕ) (w : List ℕ) → is_mark (c ∷ w) ≡ true → is_mark_byte c ≡ true
unfolding is_single is_double is_triple
mark_first c [] h = any_byte is_mark_byte c single_marks refl h
mark_first c (b ∷ []) h = any_first is_mark_byte c (b ∷ []) double_marks refl h
mark_first c (b ∷ d ∷ []) h = any_first is_mark_byte c (b ∷ d ∷ []) triple_marks refl h
mark_first c (b ∷ d ∷ e ∷ w) h = absurd cc

abbrev is_no_underscore : ℕ → Bool
is_no_underscore c = not (c == 95)

pub underscore_mark : (w : List ℕ) → is_mark (95 ∷ w) ≡ true → w ≡ []
unfolding is_double is_triple
underscore_mark [] h = refl
underscore_mark (b ∷ []) h = absurd (let k = any_first is_no_underscore 95 (b ∷ []) double_marks refl h in cc)
underscore_mark (b ∷ d ∷ []) h = absurd (let k = any_first is_no_underscore 95 (b ∷ d ∷ []) triple_marks refl h in cc)
underscore_mark (b ∷ d ∷ e ∷ w) h = absurd cc

-- ---- all forms

pub first_fits : (dot : Bool) (f : Form) (c : ℕ) (w : List ℕ) → is_form dot f (c ∷ w) ≡ true → fits_first f c ≡ true
first_fits dot Identifier c w h = identifier_first c w h
first_fits dot Lifetime c w h = and_left (c == 39) _ h
first_fits false Number c w h = number_first c w h
first_fits true Number c w h = and_left (is_ascii_digit c) _ h
first_fits dot Quoted c w h = and_left (c == 34) _ h
first_fits dot Mark c w h = mark_first c w h

no_identifier : is_identifier [] ≡ true → ⊥
no_identifier h =
    let s = spelled [] h in
    by_chars (chars []) (encodes-chars [] s.utf8) s.starts
  where
    by_chars : (cs : List ℕ) → encodes cs ≡ [] → begins starts_identifier cs ≡ true → ⊥
    by_chars [] e h = cc
    by_chars (c ∷ cs) e h = let l = ap length e in let b = length-le-encodes (c ∷ cs) in omega arith

no_number : is_number [] ≡ true → ⊥
unfolding is_number
no_number h = cc

-- no form is empty
pub no_form : (dot : Bool) (f : Form) → is_form dot f [] ≡ true → ⊥
no_form dot Identifier h = no_identifier h
no_form dot Lifetime h = cc
no_form false Number h = no_number h
no_form true Number h = cc
no_form dot Quoted h = cc
no_form dot Mark h = cc

-- the form by the first byte
abbrev pub sort : ℕ → Form
sort c =
    if is_ascii_digit c then Number
    else (if c == 34 then Quoted
    else (if c == 39 then Lifetime
    else (if is_letter c then Identifier else Mark)))

sort_letter : (c : ℕ) → is_letter c ≡ true → sort c ≡ Identifier
sort_letter c h =
    let a : is_ascii_digit c ≡ false = grind (arith, nat_tests) in
    let b : (c == 34) ≡ false = grind (arith, nat_tests) in
    let d : (c == 39) ≡ false = grind (arith, nat_tests) in
    rw (a, b, d, h) refl

sort_mark : (c : ℕ) → is_mark_byte c ≡ true → (c == 95) ≡ false → sort c ≡ Mark
sort_mark c h u =
    let a : is_ascii_digit c ≡ false = grind (arith, nat_tests) in
    let b : (c == 34) ≡ false = grind (arith, nat_tests) in
    let d : (c == 39) ≡ false = grind (arith, nat_tests) in
    let e : is_letter c ≡ false = grind (arith, nat_tests) in
    rw (a, b, d, e) refl

-- the form of a slice
abbrev pub form_by : Bool → List ℕ → ℕ → Form
form_by true [] c = Mark
form_by true (b ∷ w) c = sort c
form_by false w c = sort c

abbrev pub form_of : List ℕ → Form
form_of [] = Mark
form_of (c ∷ w) = form_by (c == 95) w c

by_sort : (b : Bool) (w : List ℕ) (c : ℕ) (f : Form) → sort c ≡ f → (b ≡ true → w ≡ [] → ⊥) → form_by b w c ≡ f
by_sort true [] c f h k = absurd (k refl refl)
by_sort true (b ∷ w) c f h k = h
by_sort false w c f h k = h

identifier_sort : (c : ℕ) (w : List ℕ) → is_identifier (c ∷ w) ≡ true → form_of (c ∷ w) ≡ Identifier
identifier_sort c w h =
    by_sort (c == 95) w c Identifier (sort_letter c (identifier_first c w h)) (λ e n.
    no_lone_identifier (subst (λ x. is_identifier x ≡ true) (λ i. eqb-true c 95 e i ∷ n i) h))

mark_sort : (c : ℕ) (w : List ℕ) → is_mark (c ∷ w) ≡ true → form_of (c ∷ w) ≡ Mark
mark_sort c w h = by_line (c == 95) refl
  where
    by_line : (b : Bool) → (c == 95) ≡ b → form_of (c ∷ w) ≡ Mark
    by_line true e =
        let n = underscore_mark w (subst (λ x. is_mark (x ∷ w) ≡ true) (eqb-true c 95 e) h) in
        ap (λ b. form_by b w c) e ∙ ap (λ v. form_by true v c) n
    by_line false e = ap (λ b. form_by b w c) e ∙ sort_mark c (mark_first c w h) e

plain_sort : (c : ℕ) (w : List ℕ) (f : Form) → sort c ≡ f → (c == 95) ≡ false → form_of (c ∷ w) ≡ f
plain_sort c w f h e = ap (λ b. form_by b w c) e ∙ h

number_sort : (c : ℕ) (w : List ℕ) → is_ascii_digit c ≡ true → form_of (c ∷ w) ≡ Number
number_sort c w h = let u : (c == 95) ≡ false = grind (arith, nat_tests) in plain_sort c w Number (if_true (is_ascii_digit c) Number _ h) u

-- a slice has one form
pub form_is : (dot : Bool) (f : Form) (w : List ℕ) → is_form dot f w ≡ true → form_of w ≡ f
form_is dot f [] h = absurd (no_form dot f h)
form_is dot Identifier (c ∷ w) h = identifier_sort c w h
form_is dot Lifetime (c ∷ w) h = let e = eqb-true c 39 (and_left (c == 39) _ h) in ap (λ x. form_of (x ∷ w)) e
form_is false Number (c ∷ w) h = number_sort c w (number_first c w h)
form_is true Number (c ∷ w) h = number_sort c w (and_left (is_ascii_digit c) _ h)
form_is dot Quoted (c ∷ w) h = let e = eqb-true c 34 (and_left (c == 34) _ h) in ap (λ x. form_of (x ∷ w)) e
form_is dot Mark (c ∷ w) h = mark_sort c w h
