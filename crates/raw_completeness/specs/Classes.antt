-- The class of a lexeme that stands for a token (TEXT.md, "Tokens", "Words", "Names").
use Rattle.std.proofs.Common.{◌≡◌, refl, ap, sym, subst, ◌∙◌, ℕ, ◌<◌, ◌≤◌, ◌^◌, Bool, true, false, List, [], ◌∷◌, ◌++◌, Option, Some, None, arith, ℤ}
use Rattle.std.specs.Prelude.{◌==◌, ◌&&◌, ◌||◌, not, if◌then◌else◌, codes, bytes_eq}
use Rattle.std.specs.List.{list_all}
use Rattle.std.specs.Char.{is_ascii_digit, is_ascii_alphabetic, digit_value}
use Rattle.std.specs.Fmt.{decimal, signed_decimal}
use Rattle.std.specs.Str.Parse.{IsNumeral, AllDigits}
use Rattle.std.specs.Cmp.Lexicographic.{bytes_decides}
use Rattle.std.proofs.Math.Dec.{lit≤}
use Rattle.std.proofs.lemmas.Bool.Decides.{nat_tests}
use Rattle.std.proofs.lemmas.Fmt.{decimal_is_IsNumeral_wide}
use Rattle.aen_base.specs.declared.int_ty.IntTy.{IntTy}
use Rattle.aen_base.specs.declared.int_ty.IntTy.TheVariants.{U8, U16, U32, U64, U128, Usize, I8, I16, I32, I64, I128, Isize}
use Rattle.text_meaning.specs.Names.{is_bare, is_word_byte, is_variable, are_digits}
use Rattle.text_meaning.specs.Ranges.{IsSmall}
use Rattle.text_meaning.specs.Tokens.{Token, word, id, number, mark, var_text, loop_text, back_text}
use Rattle.text_meaning.specs.Words.{int_word}
use Rattle.text_tokens.specs.Stands.{Stands}
use Rattle.text_tokens.specs.declared.lexeme.LexemeKind.{LexemeKind}
use Rattle.text_tokens.specs.declared.lexeme.LexemeKind.TheVariants.{Word, Marked, Number, Punct}
use Rattle.text_table.specs.declared.class.Class.{Class}
use Rattle.text_table.specs.declared.class.Class.TheVariants as C
use Rattle.text_table.specs.declared.terminal.Terminal.{Terminal}
use Rattle.text_table.specs.declared.terminal.Terminal.TheVariants as T
use Rattle.text_table.specs.Classes.{spelling, names}
use Rattle.text_table.specs.Lexemes.{has_class}
use Rattle.text_table.specs.Spelled.{class_among, class_named}
use Rattle.text_syntax.specs.Among.{and_left, and_right, implied, opposed, either_right}
use Rattle.text_syntax.specs.Classing.{class_of, class_of_word, class_of_other, class_of_name, class_of_number, class_of_mark, own_or_other, is_numbered, text_of}
use Rattle.text_syntax.specs.Standing.{token_said}
use Rattle.raw_completeness.specs.Booleans.{both_true}

-- ---- words, marks and numbers that are known

-- whether a token of the grammar takes what stands for this token
abbrev pub fits : Terminal → Token → Bool
fits t (word w) = has_class t (class_of_word w)
fits t (id n) = false
fits t (number z) = has_class t (class_of_number (signed_decimal z))
fits t (mark m) = has_class t (class_of_mark m)

pub fitting : (t : Terminal) (u : Token) (k : LexemeKind) → fits t u ≡ true → Stands k u → has_class t (class_of k) ≡ true
fitting t (word v) (Word w) f h = subst (λ (x : List ℕ). has_class t (class_of_word x) ≡ true) h f
fitting t (word v) (Marked n) f h = absurd h
fitting t (word v) (Number s) f h = absurd h
fitting t (word v) (Punct m) f h = absurd h
fitting t (id v) k f h = absurd cc
fitting t (number z) (Word w) f h = absurd h
fitting t (number z) (Marked n) f h = absurd h
fitting t (number z) (Number s) f h = subst (λ (x : List ℕ). has_class t (class_of_number x) ≡ true) (sym h) f
fitting t (number z) (Punct m) f h = absurd h
fitting t (mark m) (Word w) f h = absurd h
fitting t (mark m) (Marked n) f h = absurd h
fitting t (mark m) (Number s) f h = absurd h
fitting t (mark m) (Punct n) f h = ap (λ x. has_class t (class_of_mark x)) (sym h) ∙ f

pub is_the_word : (k : LexemeKind) (w : List ℕ) → Stands k (word w) → k ≡ Word w
is_the_word (Word v) w h = ap (λ (x : List ℕ). Word x) (sym h)
is_the_word (Marked n) w h = absurd h
is_the_word (Number s) w h = absurd h
is_the_word (Punct m) w h = absurd h

pub is_the_number : (k : LexemeKind) (z : ℤ) → Stands k (number z) → k ≡ Number (signed_decimal z)
is_the_number (Word v) z h = absurd h
is_the_number (Marked n) z h = absurd h
is_the_number (Number s) z h = ap (λ (x : List ℕ). Number x) h
is_the_number (Punct m) z h = absurd h

-- ---- words by what holds of all classes of words

found_by : (b : Bool) (test : Class → Bool) (w : List ℕ) (c d : Class) (o : Option Class) → (b ≡ true → w ≡ spelling c) → test c ≡ true →
    (o ≡ Some d → (w ≡ spelling d) × (test d ≡ true)) → (if b then Some c else o) ≡ Some d → (w ≡ spelling d) × (test d ≡ true)
found_by true test w c d o s t later h = let e : c ≡ d = cc in subst (λ (x : Class). (w ≡ spelling x) × (test x ≡ true)) e (s refl, t)
found_by false test w c d o s t later h = later h

among : (test : Class → Bool) (w : List ℕ) (cs : List Class) (d : Class) → list_all test cs ≡ true → class_among w cs ≡ Some d → (w ≡ spelling d) × (test d ≡ true)
among test w [] d a h = absurd cc
among test w (c ∷ cs) d a h =
    found_by (bytes_eq w (spelling c)) test w c d (class_among w cs) (λ e. (bytes_decides w (spelling c)).0 e) (and_left (test c) (list_all test cs) a)
    (λ g. among test w cs d (and_right (test c) (list_all test cs) a) g) h

-- a word that passes a test which no class's word passes has no class of its own
none_by : (o : Option Class) (test : List ℕ → Bool) (w : List ℕ) → class_among w names ≡ o → list_all (λ (c : Class). not (test (spelling c))) names ≡ true → test w ≡ true → o ≡ None
none_by None test w e a h = refl
none_by (Some d) test w e a h =
    let r = among (λ (c : Class). not (test (spelling c))) w names d a e in
    absurd (opposed (test (spelling d)) r.1 (ap test (sym r.0) ∙ h))

other_than_words : (test : List ℕ → Bool) (w : List ℕ) → list_all (λ (c : Class). not (test (spelling c))) names ≡ true → test w ≡ true → class_of_word w ≡ class_of_other w
other_than_words test w a h = ap (λ (o : Option Class). own_or_other o w) (none_by (class_named w) test w refl a h)

-- ---- names

abbrev named_if_bare : Class → Bool
named_if_bare c = not (is_bare (spelling c)) || has_class T.Name c

bare_are_named : list_all named_if_bare names ≡ true
bare_are_named = refl

other_names : (a b : Bool) → has_class T.Name (if a then C.LoopNumber else (if b then C.BackNumber else C.Other)) ≡ true
other_names true b = refl
other_names false true = refl
other_names false false = refl

bare_by : (o : Option Class) (w : List ℕ) → class_among w names ≡ o → is_bare w ≡ true → has_class T.Name (own_or_other o w) ≡ true
bare_by (Some d) w e h =
    let r = among named_if_bare w names d bare_are_named e in
    implied (is_bare (spelling d)) (has_class T.Name d) r.1 (ap is_bare (sym r.0) ∙ h)
bare_by None w e h =
    ap (λ (b : Bool). has_class T.Name (if b then class_of_name w else (if is_variable w then C.Variable else C.Excluded))) h
    ∙ other_names (is_numbered (codes "loop") w) (is_numbered (codes "back") w)

pub name_taken : (n : List ℕ) (k : LexemeKind) → Stands k (id n) → has_class T.Name (class_of k) ≡ true
name_taken n (Word w) h = bare_by (class_named w) w refl h.1
name_taken n (Marked m) h = refl
name_taken n (Number s) h = absurd h
name_taken n (Punct m) h = absurd h

pub name_text : (n : List ℕ) (k : LexemeKind) → Stands k (id n) → text_of k ≡ n
name_text n (Word w) h = token_said T.Name (class_of_word w) w refl (name_taken n (Word w) h) ∙ sym h.0
name_text n (Marked m) h = sym h
name_text n (Number s) h = absurd h
name_text n (Punct m) h = absurd h

-- ---- numbers

any_number : (a b : Bool) → has_class T.Number (if a then C.Zero else (if b then C.One else C.Digits)) ≡ true
any_number true b = refl
any_number false true = refl
any_number false false = refl

pub number_fits : (z : ℤ) → fits T.Number (number z) ≡ true
number_fits z = any_number (bytes_eq (signed_decimal z) (codes "0")) (bytes_eq (signed_decimal z) (codes "1"))

-- ---- words with numbers

digit_class : (c : ℕ) → digit_value c < 10 → is_ascii_digit c ≡ true
digit_class c h = grind (arith, nat_tests)

all_class : (ds : List ℕ) → AllDigits 10 ds → list_all is_ascii_digit ds ≡ true
all_class [] h = refl
all_class (c ∷ cs) h = both_true _ _ (digit_class c h.0) (all_class cs h.1)

numeral_class : (ds : List ℕ) → IsNumeral 10 ds → are_digits ds ≡ true
numeral_class [] h = let k : 0 < 0 = h.0 in absurd (omega arith)
numeral_class (c ∷ cs) h = all_class (c ∷ cs) h.1

pub decimal_digits : (n : ℕ) → n < 10 ^ 64 → are_digits (decimal n) ≡ true
decimal_digits n h = numeral_class (decimal n) (decimal_is_IsNumeral_wide n h).0

pub wide : (n : ℕ) → IsSmall n → n < 10 ^ 64
wide n h = let large : 2 ^ 32 ≤ 10 ^ 64 = lit≤ tt in omega arith

-- variables
no_bare_variable : (a b c : Bool) → b ≡ true → a && (c && not b) ≡ false
no_bare_variable true true true h = refl
no_bare_variable true true false h = refl
no_bare_variable false true c h = refl
no_bare_variable a false c h = absurd cc

variable_fits_if : (w : List ℕ) → is_variable w ≡ true → class_of_word w ≡ C.Variable
variable_fits_if w h =
    other_than_words is_variable w refl h
    ∙ ap (λ (b : Bool). if b then class_of_name w else (if is_variable w then C.Variable else C.Excluded)) (no_bare_variable _ (is_variable w) _ h)
    ∙ ap (λ (b : Bool). if b then C.Variable else C.Excluded) h

pub variable_fits : (v : ℕ) → IsSmall v → fits T.Variable (word (var_text v)) ≡ true
variable_fits v small = ap (has_class T.Variable) (variable_fits_if (var_text v) (decimal_digits v (wide v small)))

-- `loop` and `back`
digit_is_word_byte : (c : ℕ) → is_ascii_digit c ≡ true → is_word_byte c ≡ true
digit_is_word_byte c h = either_right (is_ascii_alphabetic c || (c == 95)) (is_ascii_digit c) h

digits_are_word_bytes : (ds : List ℕ) → list_all is_ascii_digit ds ≡ true → list_all is_word_byte ds ≡ true
digits_are_word_bytes [] h = refl
digits_are_word_bytes (d ∷ ds) h =
    both_true _ _ (digit_is_word_byte d (and_left (is_ascii_digit d) (list_all is_ascii_digit ds) h))
    (digits_are_word_bytes ds (and_right (is_ascii_digit d) (list_all is_ascii_digit ds) h))

loop_bare : (ds : List ℕ) → are_digits ds ≡ true → is_bare (codes "loop" ++ ds) ≡ true
loop_bare [] h = absurd cc
loop_bare (d ∷ ds) h = rw (digits_are_word_bytes (d ∷ ds) h) refl

back_bare : (ds : List ℕ) → are_digits ds ≡ true → is_bare (codes "back" ++ ds) ≡ true
back_bare [] h = absurd cc
back_bare (d ∷ ds) h = rw (digits_are_word_bytes (d ∷ ds) h) refl

loop_class : (ds : List ℕ) → are_digits ds ≡ true → class_of_word (codes "loop" ++ ds) ≡ C.LoopNumber
loop_class ds h =
    other_than_words (is_numbered (codes "loop")) (codes "loop" ++ ds) refl h
    ∙ ap (λ (b : Bool). if b then class_of_name (codes "loop" ++ ds) else (if is_variable (codes "loop" ++ ds) then C.Variable else C.Excluded)) (loop_bare ds h)
    ∙ ap (λ (b : Bool). if b then C.LoopNumber else C.Other) h

pub loop_fits : (k : ℕ) → IsSmall k → fits T.LoopNumber (word (loop_text k)) ≡ true
loop_fits k small = ap (has_class T.LoopNumber) (loop_class (decimal k) (decimal_digits k (wide k small)))

abbrev back_if_numbered : Class → Bool
back_if_numbered c = not (is_numbered (codes "back") (spelling c)) || has_class T.Back c

numbered_are_back : list_all back_if_numbered names ≡ true
numbered_are_back = refl

back_by : (o : Option Class) (ds : List ℕ) → class_among (codes "back" ++ ds) names ≡ o → are_digits ds ≡ true → has_class T.Back (own_or_other o (codes "back" ++ ds)) ≡ true
back_by (Some d) ds e h =
    let r = among back_if_numbered (codes "back" ++ ds) names d numbered_are_back e in
    implied (is_numbered (codes "back") (spelling d)) (has_class T.Back d) r.1 (ap (is_numbered (codes "back")) (sym r.0) ∙ h)
back_by None ds e h =
    ap (λ (b : Bool). has_class T.Back (if b then class_of_name (codes "back" ++ ds) else (if is_variable (codes "back" ++ ds) then C.Variable else C.Excluded))) (back_bare ds h)
    ∙ ap (λ (b : Bool). has_class T.Back (if b then C.BackNumber else C.Other)) h

pub back_fits : (k : ℕ) → IsSmall k → fits T.Back (word (back_text k)) ≡ true
back_fits k small = back_by (class_named (back_text k)) (decimal k) refl (decimal_digits k (wide k small))

-- ---- integer types

pub int_fits : (t : IntTy) → fits T.Int (word (int_word t)) ≡ true
int_fits U8 = refl
int_fits U16 = refl
int_fits U32 = refl
int_fits U64 = refl
int_fits U128 = refl
int_fits Usize = refl
int_fits I8 = refl
int_fits I16 = refl
int_fits I32 = refl
int_fits I64 = refl
int_fits I128 = refl
int_fits Isize = refl
