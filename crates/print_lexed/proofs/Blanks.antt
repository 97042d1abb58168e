-- No token's form but a string's has a blank in it.
use Rattle.std.proofs.Common.{◌≡◌, refl, ap, sym, ◌∙◌, ℕ, zero, suc, ◌<◌, Bool, true, false, List, [], ◌∷◌, ◌++◌, drop, Some, IsUtf8, chars, arith}
use Rattle.std.specs.Prelude.{◌&&◌, ◌||◌, ◌==◌, nat_lt, not, bytes_eq, if◌then◌else◌}
use Rattle.std.specs.List.{list_all, list_any}
use Rattle.std.specs.Option.{is_some}
use Rattle.std.specs.Str.{is_utf8}
use Rattle.std.specs.Char.{is_ascii_digit}
use Rattle.std.proofs.lemmas.Bool.{eqb-true}
use Rattle.std.proofs.lemmas.Bool.Decides.{nat_tests}
use Rattle.std.proofs.lemmas.Str.{chars-append, chars-IsAscii, IsUtf8-from_ascii}
use Rattle.std.specs.Str.{IsAscii}
use Rattle.unicode_ident.specs.Ident.{is_xid_continue}
use Rattle.unicode_ident.proofs.IdentLemmas.{is_xid_continue-ascii}
use Rattle.aen_base.specs.declared.int_ty.IntTy.{IntTy}
use Rattle.aen_base.specs.declared.int_ty.IntTy.TheVariants as ints
use Rattle.rust_lex.specs.declared.token.Base.{Base}
use Rattle.rust_lex.specs.declared.token.Base.TheVariants as B
use Rattle.rust_lex.specs.Characters.{begins, begins_two, back}
use Rattle.rust_lex.specs.Words.{int_word, int_among, int_types}
use Rattle.rust_lex.specs.Identifiers.{are_identifier, is_identifier, starts_identifier}
use Rattle.rust_lex.specs.Numbers.{is_number, are_digits, is_suffix, base_of, prefix_length, after_prefix, suffix_of, goes_on, is_digit_of}
use Rattle.rust_lex.specs.Punctuation.{is_single, is_double, is_triple, is_mark, single_marks, double_marks, triple_marks}

abbrev pub has_blank : List ℕ → Bool
has_blank w = list_any (λ c. c == 32) w

pub none : {G : Type 0} (b : Bool) → b ≡ true → b ≡ false → G
none true p q = absurd cc
none false p q = absurd cc

pub and_first : (a b : Bool) → a && b ≡ true → a ≡ true
and_first true b h = refl
and_first false b h = absurd cc

pub and_second : (a b : Bool) → a && b ≡ true → b ≡ true
and_second true b h = h
and_second false b h = absurd cc

pub and_both : (a b : Bool) → a ≡ true → b ≡ true → a && b ≡ true
and_both a b p q = (λ i. p i && b) ∙ q

pub or_false : (a b : Bool) → a ≡ false → b ≡ false → a || b ≡ false
or_false true b p q = absurd cc
or_false false b p q = q

pub or_second : (a b : Bool) → b ≡ true → a || b ≡ true
or_second true b q = refl
or_second false b q = q

-- a blank between
pub blank_between : (w v : List ℕ) → has_blank (w ++ (32 ∷ v)) ≡ true
blank_between [] v = refl
blank_between (c ∷ w) v = or_second (c == 32) (has_blank (w ++ (32 ∷ v))) (blank_between w v)

not_blank : (p : ℕ → Bool) (c : ℕ) → p c ≡ true → p 32 ≡ false → c == 32 ≡ false
not_blank p c h k = by_test (c == 32) refl where
  by_test : (b : Bool) → c == 32 ≡ b → c == 32 ≡ false
  by_test true e = none (p 32) (sym (ap p (eqb-true c 32 e)) ∙ h) k
  by_test false e = e

-- where every byte passes a test that a blank does not
pub all_pass : (p : ℕ → Bool) (w : List ℕ) → p 32 ≡ false → list_all p w ≡ true → has_blank w ≡ false
all_pass p [] k h = refl
all_pass p (c ∷ w) k h = or_false (c == 32) (has_blank w) (not_blank p c (and_first (p c) (list_all p w) h) k) (all_pass p w k (and_second (p c) (list_all p w) h))

-- a word of a list without blanks
same_word : (w d : List ℕ) → bytes_eq w d ≡ true → has_blank w ≡ has_blank d
same_word [] [] h = refl
same_word [] (d ∷ ds) h = absurd cc
same_word (c ∷ w) [] h = absurd cc
same_word (c ∷ w) (d ∷ ds) h =
    let e : c ≡ d = eqb-true c d (and_first (c == d) (bytes_eq w ds) h) in
    let f : has_blank w ≡ has_blank ds = same_word w ds (and_second (c == d) (bytes_eq w ds) h) in
    λ i. (e i == 32) || f i

pub word_among : (w : List ℕ) (ds : List (List ℕ)) → list_any has_blank ds ≡ false → list_any (bytes_eq w) ds ≡ true → has_blank w ≡ false
word_among w [] k h = absurd cc
word_among w (d ∷ ds) k h = by_test (λ e f. word_among w ds e f) (bytes_eq w d) refl h where
  first : (a b : Bool) → a || b ≡ false → a ≡ false
  first true b p = absurd cc
  first false b p = refl

  second : (a b : Bool) → a || b ≡ false → b ≡ false
  second true b p = absurd cc
  second false b p = p

  by_test : (list_any has_blank ds ≡ false → list_any (bytes_eq w) ds ≡ true → has_blank w ≡ false) → (b : Bool) → bytes_eq w d ≡ b → b || list_any (bytes_eq w) ds ≡ true → has_blank w ≡ false
  by_test f true e h = same_word w d e ∙ first (has_blank d) (list_any has_blank ds) k
  by_test f false e h = f (second (has_blank d) (list_any has_blank ds) k) h

-- a byte of a list without blanks
byte_among : (c : ℕ) (ds : List ℕ) → has_blank ds ≡ false → list_any (λ d. c == d) ds ≡ true → c == 32 ≡ false
byte_among c [] k h = absurd cc
byte_among c (d ∷ ds) k h = by_test (λ e f. byte_among c ds e f) (c == d) refl (d == 32) refl k h where
  by_test : (has_blank ds ≡ false → list_any (λ d. c == d) ds ≡ true → c == 32 ≡ false) → (a : Bool) → c == d ≡ a → (b : Bool) → d == 32 ≡ b → b || has_blank ds ≡ false → a || list_any (λ d. c == d) ds ≡ true → c == 32 ≡ false
  by_test g a e true f k h = absurd cc
  by_test g true e false f k h = ap (λ x. x == 32) (eqb-true c d e) ∙ f
  by_test g false e false f k h = g k h

-- ---- marks and digits

pub mark_pure : (w : List ℕ) → is_mark w ≡ true → has_blank w ≡ false
unfolding is_single is_double is_triple
mark_pure [] h = absurd cc
mark_pure (a ∷ []) h = or_false (a == 32) false (byte_among a single_marks refl h) refl
mark_pure (a ∷ b ∷ []) h = word_among (a ∷ b ∷ []) double_marks refl h
mark_pure (a ∷ b ∷ c ∷ []) h = word_among (a ∷ b ∷ c ∷ []) triple_marks refl h
mark_pure (a ∷ b ∷ c ∷ d ∷ w) h = absurd cc

pub digits_pure : (w : List ℕ) → are_digits w ≡ true → has_blank w ≡ false
digits_pure [] h = absurd cc
digits_pure (c ∷ w) h = all_pass is_ascii_digit (c ∷ w) refl h

-- ---- numbers

type_pure : (t : IntTy) → has_blank (int_word t) ≡ false
type_pure ints.U8 = refl
type_pure ints.U16 = refl
type_pure ints.U32 = refl
type_pure ints.U64 = refl
type_pure ints.U128 = refl
type_pure ints.Usize = refl
type_pure ints.I8 = refl
type_pure ints.I16 = refl
type_pure ints.I32 = refl
type_pure ints.I64 = refl
type_pure ints.I128 = refl
type_pure ints.Isize = refl

type_among : (w : List ℕ) (ts : List IntTy) → is_some (int_among w ts) ≡ true → has_blank w ≡ false
type_among w [] h = absurd cc
type_among w (t ∷ ts) h = by_test (λ e. type_among w ts e) (bytes_eq w (int_word t)) refl h where
  by_test : (is_some (int_among w ts) ≡ true → has_blank w ≡ false) → (b : Bool) → bytes_eq w (int_word t) ≡ b → is_some (if b then Some t else int_among w ts) ≡ true → has_blank w ≡ false
  by_test f true e h = same_word w (int_word t) e ∙ type_pure t
  by_test f false e h = f h

suffix_pure : (w : List ℕ) → is_suffix w ≡ true → has_blank w ≡ false
suffix_pure [] h = refl
suffix_pure (c ∷ w) h = type_among (c ∷ w) int_types h

-- what stands behind bytes that pass has the blank
blank_behind : (p : ℕ → Bool) (w : List ℕ) → p 32 ≡ false → has_blank w ≡ true → has_blank (back p w) ≡ true
blank_behind p [] k h = h
blank_behind p (c ∷ w) k h = by_test (λ e. blank_behind p w k e) (p c) refl where
  passed : (b : Bool) → b || has_blank w ≡ true → b ≡ false → has_blank w ≡ true
  passed true h e = absurd cc
  passed false h e = h

  by_test : (has_blank w ≡ true → has_blank (back p w) ≡ true) → (b : Bool) → p c ≡ b → has_blank (if b then back p w else c ∷ w) ≡ true
  by_test f true e = f (passed (c == 32) h (not_blank p c e k))
  by_test f false e = h

no_digit : (b : Base) → goes_on b 32 ≡ false
no_digit B.Binary = refl
no_digit B.Octal = refl
no_digit B.Decimal = refl
no_digit B.Hexadecimal = refl

-- a prefix is no blank
after_two : (a : ℕ) (w : List ℕ) → begins_two 48 a w ≡ true → a == 32 ≡ false → has_blank w ≡ true → has_blank (drop 2 w) ≡ true
after_two a [] h k b = absurd cc
after_two a (c ∷ []) h k b = absurd (none false (and_second (c == 48) false h) refl)
after_two a (c ∷ d ∷ w) h k b =
    let e : c ≡ 48 = eqb-true c 48 (and_first (c == 48) (d == a) h) in
    let f : d ≡ a = eqb-true d a (and_second (c == 48) (d == a) h) in
    let x : c == 32 ≡ false = ap (λ z. z == 32) e in
    let y : d == 32 ≡ false = ap (λ z. z == 32) f ∙ k in
    sym (λ i. x i || (y i || has_blank w)) ∙ b

prefix_pure : (w : List ℕ) → has_blank w ≡ true → has_blank (after_prefix w) ≡ true
prefix_pure w h = by_hex (begins_two 48 120 w) refl where
  by_two : (c : Bool) → begins_two 48 98 w ≡ c → has_blank (drop (prefix_length (if c then B.Binary else B.Decimal)) w) ≡ true
  by_two true e = after_two 98 w e refl h
  by_two false e = h

  by_oct : (b : Bool) → begins_two 48 111 w ≡ b → has_blank (drop (prefix_length (if b then B.Octal else (if begins_two 48 98 w then B.Binary else B.Decimal))) w) ≡ true
  by_oct true e = after_two 111 w e refl h
  by_oct false e = by_two (begins_two 48 98 w) refl

  by_hex : (a : Bool) → begins_two 48 120 w ≡ a → has_blank (drop (prefix_length (if a then B.Hexadecimal else (if begins_two 48 111 w then B.Octal else (if begins_two 48 98 w then B.Binary else B.Decimal)))) w) ≡ true
  by_hex true e = after_two 120 w e refl h
  by_hex false e = by_oct (begins_two 48 111 w) refl

pub number_pure : (w : List ℕ) → is_number w ≡ true → has_blank w ≡ true → ⊥
unfolding is_number
number_pure w h b =
    none (has_blank (suffix_of w)) (blank_behind (goes_on (base_of w)) (after_prefix w) (no_digit (base_of w)) (prefix_pure w b))
    (suffix_pure (suffix_of w) (and_second (begins (is_digit_of (base_of w)) (after_prefix w)) (is_suffix (suffix_of w)) h))

-- ---- identifiers

blank_in : (xs ys : List ℕ) → list_all is_xid_continue (xs ++ (32 ∷ ys)) ≡ true → ⊥
blank_in [] ys h = none (is_xid_continue 32) (and_first (is_xid_continue 32) (list_all is_xid_continue ys) h) (is_xid_continue-ascii 32 (omega arith))
blank_in (x ∷ xs) ys h = blank_in xs ys (and_second (is_xid_continue x) (list_all is_xid_continue (xs ++ (32 ∷ ys))) h)

-- a byte of ASCII at the front is a character
pub low : (c : ℕ) → c < 128 → IsAscii (c ∷ [])
low c h zero = h
low c h (suc i) = omega arith

-- bytes that pass a test of ASCII bytes alone
pub ascii_of : (p : ℕ → Bool) → ((c : ℕ) → p c ≡ true → c < 128) → (w : List ℕ) → list_all p w ≡ true → IsAscii w
ascii_of p below [] h zero = omega arith
ascii_of p below [] h (suc i) = omega arith
ascii_of p below (c ∷ w) h zero = below c (and_first (p c) (list_all p w) h)
ascii_of p below (c ∷ w) h (suc i) = ascii_of p below w (and_second (p c) (list_all p w) h) i

abbrev pub is_low : ℕ → Bool
is_low c = nat_lt c 128

pub low_byte : (c : ℕ) → is_low c ≡ true → c < 128
low_byte c h = grind (arith, nat_tests)

pub low_digit : (c : ℕ) → is_ascii_digit c ≡ true → c < 128
low_digit c h = grind (arith, nat_tests)

pub chars_low : (c : ℕ) (v : List ℕ) → c < 128 → chars (c ∷ v) ≡ c ∷ chars v
chars_low c v h = chars-append (c ∷ []) v (IsUtf8-from_ascii (c ∷ []) (low c h)) ∙ ap (λ x. x ++ chars v) (chars-IsAscii (c ∷ []) (low c h))

pub identifier_pure : (w v : List ℕ) → IsUtf8 w → is_identifier (w ++ (32 ∷ v)) ≡ true → ⊥
unfolding is_identifier
identifier_pure w v u h =
    let u1 = w ++ (32 ∷ v) in
    let a : are_identifier (chars (w ++ (32 ∷ v))) ≡ true = and_second (is_utf8 (w ++ (32 ∷ v))) (are_identifier (chars (w ++ (32 ∷ v)))) h in
    let b = and_first (begins starts_identifier (chars (w ++ (32 ∷ v))) && list_all is_xid_continue (chars (w ++ (32 ∷ v)))) (not (bytes_eq (chars (w ++ (32 ∷ v))) (95 ∷ []))) a in
    let c : list_all is_xid_continue (chars (w ++ (32 ∷ v))) ≡ true = and_second (begins starts_identifier (chars (w ++ (32 ∷ v)))) (list_all is_xid_continue (chars (w ++ (32 ∷ v)))) b in
    let e : chars (w ++ (32 ∷ v)) ≡ chars w ++ (32 ∷ chars v) = chars-append w (32 ∷ v) u ∙ ap (λ x. chars w ++ x) (chars_low 32 v (omega arith)) in
    blank_in (chars w) (chars v) (sym (ap (list_all is_xid_continue) e) ∙ c)
