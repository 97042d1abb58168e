-- Integers, the words of integer types, and the places of fields are lexed as themselves.
use Rattle.std.proofs.Common.{◌≡◌, refl, ap, sym, ◌∙◌, ℕ, zero, suc, ◌+◌, ◌*◌, ◌/◌, ◌%◌, ◌^◌, ◌≤◌, ◌<◌, Bool, true, false, List, [], ◌∷◌, ◌++◌, length, length-append, drop, Option, Some, None, arith}
use Rattle.std.specs.Prelude.{◌==◌, ◌||◌, ◌&&◌, nat_lt, if◌then◌else◌}
use Rattle.std.specs.List.{list_all}
use Rattle.std.specs.Char.{is_ascii_digit, is_ascii_alphabetic, is_ascii_alphanumeric, digit_value}
use Rattle.std.specs.Fmt.{decimal}
use Rattle.std.proofs.lemmas.Fmt.{decimal_by_steps_wide}
use Rattle.std.proofs.lemmas.Bool.Decides.{nat_tests}
use Rattle.std.proofs.lemmas.Str.{IsUtf8-from_ascii}
use Rattle.aen_base.specs.declared.int_ty.IntTy.{IntTy}
use Rattle.aen_base.specs.declared.int_ty.IntTy.TheVariants as ints
use Rattle.rust_lex.specs.declared.token.Kind.TheVariants as K
use Rattle.rust_lex.specs.declared.token.Form.TheVariants.{Identifier, Number}
use Rattle.rust_lex.specs.declared.token.Base.TheVariants as B
use Rattle.rust_lex.specs.Characters.{begins, begins_two, front, back}
use Rattle.rust_lex.specs.Words.{is_word, int_named}
use Rattle.rust_lex.specs.Identifiers.{word_kind}
use Rattle.rust_lex.specs.Numbers.{is_number, base_of, prefix_length, is_digit_of, radix, goes_on, is_suffix, value_in, number_value, integer_of, suffix_of, is_small}
use Rattle.source_grammar.specs.declared.class.Class.TheVariants as C
use Rattle.source_grammar.specs.Spelled.{class_named}
use Rattle.source_syntax.specs.Spelled as S
use Rattle.rust_printer.specs.ShownWords.{int_word}
use Rattle.rust_printer.specs.Tok.{int, number, suffix_of as ending}
use Rattle.print_lexed.proofs.Blanks.{and_first, and_second, and_both, ascii_of, is_low, low_byte}
use Rattle.print_lexed.proofs.LexedNames.{of_form, ascii_normal, own_name, kind_is, utf8_of, some_byte, no_quote, no_slash}
use Rattle.print_lexed.proofs.Sequences.{IsLexed}

-- ---- words of types

int_by : (ty : IntTy) → begins is_ascii_alphabetic (int_word ty) ≡ true → list_all is_ascii_alphanumeric (int_word ty) ≡ true → word_kind (int_word ty) ≡ K.Word → class_named (int_word ty) C.IntWord ≡ C.IntWord →
    int_named (int_word ty) ≡ Some ty → IsLexed false (int ty)
int_by ty b l k e f =
    let n = ascii_normal (int_word ty) b l in
    of_form (int ty) Identifier K.Word refl (some_byte (int_word ty) n.identifier) (utf8_of (int_word ty) n.identifier) (no_quote (int_word ty) n.identifier) (no_slash (int_word ty) n.identifier) n.identifier (kind_is (int_word ty) K.Word n k)
    (ap (λ x. class_named x C.IntWord) (own_name (int_word ty) n) ∙ e) (ap (λ x. S.int_type (int_named x)) (own_name (int_word ty) n) ∙ ap S.int_type f)

pub int_lexed : (ty : IntTy) → IsLexed false (int ty)
unfolding is_word
int_lexed ints.U8 = int_by ints.U8 refl refl refl refl refl
int_lexed ints.U16 = int_by ints.U16 refl refl refl refl refl
int_lexed ints.U32 = int_by ints.U32 refl refl refl refl refl
int_lexed ints.U64 = int_by ints.U64 refl refl refl refl refl
int_lexed ints.U128 = int_by ints.U128 refl refl refl refl refl
int_lexed ints.Usize = int_by ints.Usize refl refl refl refl refl
int_lexed ints.I8 = int_by ints.I8 refl refl refl refl refl
int_lexed ints.I16 = int_by ints.I16 refl refl refl refl refl
int_lexed ints.I32 = int_by ints.I32 refl refl refl refl refl
int_lexed ints.I64 = int_by ints.I64 refl refl refl refl refl
int_lexed ints.I128 = int_by ints.I128 refl refl refl refl refl
int_lexed ints.Isize = int_by ints.Isize refl refl refl refl refl

-- ---- decimal digits

abbrev pub Writes : ℕ → List ℕ → Type 0
Writes n ds = ((0 < length ds) × (list_all is_ascii_digit ds ≡ true)) × (value_in 10 0 ds ≡ n)

all_append : (p : ℕ → Bool) (xs ys : List ℕ) → list_all p xs ≡ true → list_all p ys ≡ true → list_all p (xs ++ ys) ≡ true
all_append p [] ys h k = k
all_append p (x ∷ xs) ys h k =
    let a = and_first (p x) (list_all p xs) h in
    (λ i. a i && list_all p (xs ++ ys)) ∙ all_append p xs ys (and_second (p x) (list_all p xs) h) k

no_underscore : (c : ℕ) → is_ascii_digit c ≡ true → c == 95 ≡ false
no_underscore c h = grind (arith, nat_tests)

value_digit : (b : Bool) (x y : ℕ) → b ≡ false → (if b then x else y) ≡ y
value_digit true x y h = absurd cc
value_digit false x y h = refl

value_next : (n c : ℕ) (cs : List ℕ) → is_ascii_digit c ≡ true → value_in 10 n (c ∷ cs) ≡ value_in 10 (n * 10 + digit_value c) cs
value_next n c cs h = value_digit (c == 95) (value_in 10 n cs) (value_in 10 (n * 10 + digit_value c) cs) (no_underscore c h)

value_append : (n : ℕ) (xs ys : List ℕ) → list_all is_ascii_digit xs ≡ true → value_in 10 n (xs ++ ys) ≡ value_in 10 (value_in 10 n xs) ys
value_append n [] ys h = refl
value_append n (x ∷ xs) ys h =
    let a = and_first (is_ascii_digit x) (list_all is_ascii_digit xs) h in
    value_next n x (xs ++ ys) a ∙ value_append (n * 10 + digit_value x) xs ys (and_second (is_ascii_digit x) (list_all is_ascii_digit xs) h) ∙ ap (λ m. value_in 10 m ys) (sym (value_next n x xs a))

digit_is : (n : ℕ) → n < 10 → is_ascii_digit (48 + n) ≡ true
digit_is n h = grind (arith, nat_tests)

digit_says : (n : ℕ) → n < 10 → digit_value (48 + n) ≡ n
digit_says zero h = refl
digit_says (suc zero) h = refl
digit_says (suc (suc zero)) h = refl
digit_says (suc (suc (suc zero))) h = refl
digit_says (suc (suc (suc (suc zero)))) h = refl
digit_says (suc (suc (suc (suc (suc zero))))) h = refl
digit_says (suc (suc (suc (suc (suc (suc zero)))))) h = refl
digit_says (suc (suc (suc (suc (suc (suc (suc zero))))))) h = refl
digit_says (suc (suc (suc (suc (suc (suc (suc (suc zero)))))))) h = refl
digit_says (suc (suc (suc (suc (suc (suc (suc (suc (suc zero))))))))) h = refl
digit_says (suc (suc (suc (suc (suc (suc (suc (suc (suc (suc n)))))))))) h = absurd (omega (arith, h))

one_digit : (n : ℕ) → n < 10 → Writes n ((48 + n) ∷ [])
one_digit n h = ((omega arith, (λ i. digit_is n h i && true)), value_next 0 (48 + n) [] (digit_is n h) ∙ (let e = digit_says n h in omega (arith, e)))

more_digits : (n : ℕ) (ds : List ℕ) → 10 ≤ n → Writes (n / 10) ds → Writes n (ds ++ ((48 + n % 10) ∷ []))
more_digits n ds h w =
    let r : n % 10 < 10 = omega arith in
    let l = length-append ds ((48 + n % 10) ∷ []) in (
      (omega (arith, l), all_append is_ascii_digit ds ((48 + n % 10) ∷ []) w.0.1 (λ i. digit_is (n % 10) r i && true)),
      value_append 0 ds ((48 + n % 10) ∷ []) w.0.1 ∙ value_next (value_in 10 0 ds) (48 + n % 10) [] (digit_is (n % 10) r) ∙ (let e = digit_says (n % 10) r in let v = w.1 in omega (arith, e, v)),
    )

pub decimal_writes : (n : ℕ) → n < 2 ^ 128 → Writes n (decimal n)
decimal_writes n h = decimal_by_steps_wide Writes one_digit more_digits n (omega (arith, h))

-- ---- a number with the type at its end

is_low_digit : (c : ℕ) → is_ascii_digit c ≡ true → is_low c ≡ true
is_low_digit c h = grind (arith, nat_tests)

low_digits : (ds : List ℕ) → list_all is_ascii_digit ds ≡ true → list_all is_low ds ≡ true
low_digits [] h = refl
low_digits (c ∷ ds) h = (λ i. is_low_digit c (and_first (is_ascii_digit c) (list_all is_ascii_digit ds) h) i && list_all is_low ds) ∙ low_digits ds (and_second (is_ascii_digit c) (list_all is_ascii_digit ds) h)

-- what may stand at the end
pub record IsEnd (e : List ℕ) (suffix : Option IntTy) : Type 0 where
  pub low : list_all is_low e ≡ true
  pub stops : begins (goes_on B.Decimal) e ≡ false
  pub no_x : begins (λ d. d == 120) e ≡ false
  pub no_o : begins (λ d. d == 111) e ≡ false
  pub no_b : begins (λ d. d == 98) e ≡ false
  pub ends : is_suffix e ≡ true
  pub named : int_named e ≡ suffix

type_end : (ty : IntTy) → IsEnd (int_word ty) (Some ty)
type_end ints.U8 = record { low = refl; stops = refl; no_x = refl; no_o = refl; no_b = refl; ends = refl; named = refl }
type_end ints.U16 = record { low = refl; stops = refl; no_x = refl; no_o = refl; no_b = refl; ends = refl; named = refl }
type_end ints.U32 = record { low = refl; stops = refl; no_x = refl; no_o = refl; no_b = refl; ends = refl; named = refl }
type_end ints.U64 = record { low = refl; stops = refl; no_x = refl; no_o = refl; no_b = refl; ends = refl; named = refl }
type_end ints.U128 = record { low = refl; stops = refl; no_x = refl; no_o = refl; no_b = refl; ends = refl; named = refl }
type_end ints.Usize = record { low = refl; stops = refl; no_x = refl; no_o = refl; no_b = refl; ends = refl; named = refl }
type_end ints.I8 = record { low = refl; stops = refl; no_x = refl; no_o = refl; no_b = refl; ends = refl; named = refl }
type_end ints.I16 = record { low = refl; stops = refl; no_x = refl; no_o = refl; no_b = refl; ends = refl; named = refl }
type_end ints.I32 = record { low = refl; stops = refl; no_x = refl; no_o = refl; no_b = refl; ends = refl; named = refl }
type_end ints.I64 = record { low = refl; stops = refl; no_x = refl; no_o = refl; no_b = refl; ends = refl; named = refl }
type_end ints.I128 = record { low = refl; stops = refl; no_x = refl; no_o = refl; no_b = refl; ends = refl; named = refl }
type_end ints.Isize = record { low = refl; stops = refl; no_x = refl; no_o = refl; no_b = refl; ends = refl; named = refl }

end_of : (suffix : Option IntTy) → IsEnd (ending suffix) suffix
end_of None = record { low = refl; stops = refl; no_x = refl; no_o = refl; no_b = refl; ends = refl; named = refl }
end_of (Some ty) = type_end ty

digit_goes_on : (c : ℕ) → is_ascii_digit c ≡ true → goes_on B.Decimal c ≡ true
digit_goes_on c h = grind (arith, nat_tests)

front_if : (b : Bool) (x y : List ℕ) → b ≡ true → (if b then x else y) ≡ x
front_if true x y h = refl
front_if false x y h = absurd cc

back_if : (b : Bool) (x y : List ℕ) → b ≡ false → (if b then x else y) ≡ y
back_if true x y h = absurd cc
back_if false x y h = refl

stop_front : (p : ℕ → Bool) (e : List ℕ) → begins p e ≡ false → front p e ≡ []
stop_front p [] h = refl
stop_front p (c ∷ e) h = back_if (p c) (c ∷ front p e) [] h

stop_back : (p : ℕ → Bool) (e : List ℕ) → begins p e ≡ false → back p e ≡ e
stop_back p [] h = refl
stop_back p (c ∷ e) h = back_if (p c) (back p e) (c ∷ e) h

digits_front : (ds e : List ℕ) → list_all is_ascii_digit ds ≡ true → begins (goes_on B.Decimal) e ≡ false → front (goes_on B.Decimal) (ds ++ e) ≡ ds
digits_front [] e h k = stop_front (goes_on B.Decimal) e k
digits_front (c ∷ ds) e h k =
    front_if (goes_on B.Decimal c) (c ∷ front (goes_on B.Decimal) (ds ++ e)) [] (digit_goes_on c (and_first (is_ascii_digit c) (list_all is_ascii_digit ds) h))
    ∙ ap (λ x. c ∷ x) (digits_front ds e (and_second (is_ascii_digit c) (list_all is_ascii_digit ds) h) k)

digits_back : (ds e : List ℕ) → list_all is_ascii_digit ds ≡ true → begins (goes_on B.Decimal) e ≡ false → back (goes_on B.Decimal) (ds ++ e) ≡ e
digits_back [] e h k = stop_back (goes_on B.Decimal) e k
digits_back (c ∷ ds) e h k =
    front_if (goes_on B.Decimal c) (back (goes_on B.Decimal) (ds ++ e)) (c ∷ (ds ++ e)) (digit_goes_on c (and_first (is_ascii_digit c) (list_all is_ascii_digit ds) h))
    ∙ digits_back ds e (and_second (is_ascii_digit c) (list_all is_ascii_digit ds) h) k

-- the second byte is none of a prefix
digit_differs : (c k : ℕ) → is_ascii_digit c ≡ true → 58 ≤ k → c == k ≡ false
digit_differs c k h l = grind (arith, nat_tests)

and_no : (a b : Bool) → b ≡ false → a && b ≡ false
and_no true b h = h
and_no false b h = refl

no_prefix : (k : ℕ) (ds e : List ℕ) → 58 ≤ k → 0 < length ds → list_all is_ascii_digit ds ≡ true → begins (λ d. d == k) e ≡ false → begins_two 48 k (ds ++ e) ≡ false
no_prefix k [] e l s h f = absurd (omega (arith, s))
no_prefix k (c ∷ []) e l s h f = and_no (c == 48) (begins (λ d. d == k) e) f
no_prefix k (c ∷ d ∷ ds) e l s h f =
    and_no (c == 48) (d == k) (digit_differs d k (and_first (is_ascii_digit d) (list_all is_ascii_digit ds) (and_second (is_ascii_digit c) (list_all is_ascii_digit (d ∷ ds)) h)) l)

base_by : (a b c : Bool) → a ≡ false → b ≡ false → c ≡ false → (if a then B.Hexadecimal else (if b then B.Octal else (if c then B.Binary else B.Decimal))) ≡ B.Decimal
base_by true b c p q r = absurd cc
base_by false true c p q r = absurd cc
base_by false false true p q r = absurd cc
base_by false false false p q r = refl

pub record IsNumber (n : ℕ) (suffix : Option IntTy) (w : List ℕ) : Type 0 where
  pub is : is_number w ≡ true
  pub small : is_small w ≡ true
  pub value : number_value w ≡ n
  pub named : int_named (suffix_of w) ≡ suffix

first_digit : (ds e : List ℕ) → 0 < length ds → list_all is_ascii_digit ds ≡ true → begins (is_digit_of B.Decimal) (ds ++ e) ≡ true
first_digit [] e s h = absurd (omega (arith, s))
first_digit (c ∷ ds) e s h = let a = and_first (is_ascii_digit c) (list_all is_ascii_digit ds) h in grind (arith, nat_tests)

pub number_is : (n : ℕ) (suffix : Option IntTy) (ds e : List ℕ) → n < 2 ^ 128 → Writes n ds → IsEnd e suffix → IsNumber n suffix (ds ++ e)
unfolding is_number number_value
number_is n suffix ds e l w x =
    let base : base_of (ds ++ e) ≡ B.Decimal = base_by (begins_two 48 120 (ds ++ e)) (begins_two 48 111 (ds ++ e)) (begins_two 48 98 (ds ++ e))
    (no_prefix 120 ds e (omega arith) w.0.0 w.0.1 x.no_x) (no_prefix 111 ds e (omega arith) w.0.0 w.0.1 x.no_o) (no_prefix 98 ds e (omega arith) w.0.0 w.0.1 x.no_b) in
    let suffixed : suffix_of (ds ++ e) ≡ e = ap (λ b. back (goes_on b) (drop (prefix_length b) (ds ++ e))) base ∙ digits_back ds e w.0.1 x.stops in
    let says : number_value (ds ++ e) ≡ n = ap (λ b. value_in (radix b) 0 (front (goes_on b) (drop (prefix_length b) (ds ++ e)))) base ∙ ap (λ y. value_in 10 0 y) (digits_front ds e w.0.1 x.stops) ∙ w.1 in
    record {
      is = (λ i. begins (is_digit_of (base i)) (drop (prefix_length (base i)) (ds ++ e)) && is_suffix (suffixed i)) ∙ (λ i. first_digit ds e w.0.0 w.0.1 i && x.ends i);
      small = ap (λ m. nat_lt m (2 ^ 128)) says ∙ below n (2 ^ 128) l;
      value = says;
      named = ap int_named suffixed ∙ x.named;
    }
  where
    below : (m k : ℕ) → m < k → nat_lt m k ≡ true
    below m k h = grind (arith, nat_tests)

some_if : {A : Type 0} (b : Bool) (x : A) → b ≡ true → (if b then Some x else None) ≡ Some x
some_if true x h = refl
some_if false x h = absurd cc

no_first : (k : ℕ) (ds e : List ℕ) → k < 48 → 0 < length ds → list_all is_ascii_digit ds ≡ true → begins (λ c. c == k) (ds ++ e) ≡ false
no_first k [] e l s h = absurd (omega (arith, s))
no_first k (c ∷ ds) e l s h = let a = and_first (is_ascii_digit c) (list_all is_ascii_digit ds) h in grind (arith, nat_tests)

two_no : (a b : ℕ) (w : List ℕ) → begins (λ c. c == a) w ≡ false → begins_two a b w ≡ false
two_no a b [] h = refl
two_no a b (c ∷ w) h = (λ i. h i && begins (λ d. d == b) w)

or_no : (a b : Bool) → a ≡ false → b ≡ false → a || b ≡ false
or_no a b p q = (λ i. p i || b) ∙ q

pub number_lexed : (n : ℕ) (suffix : Option IntTy) → n < 2 ^ 128 → IsLexed false (number n suffix)
number_lexed n suffix l =
    let d = decimal_writes n l in
    let e = end_of suffix in
    let f = number_is n suffix (decimal n) (ending suffix) l d e in
    let w = decimal n ++ ending suffix in
    let count = length-append (decimal n) (ending suffix) in
    let some = d.0.0 in
    let slash = no_first 47 (decimal n) (ending suffix) (omega arith) d.0.0 d.0.1 in
    let integer : integer_of (decimal n ++ ending suffix) ≡ Some (record { value = n; suffix = suffix }) =
    some_if (is_number (decimal n ++ ending suffix) && is_small (decimal n ++ ending suffix)) (record { value = number_value (decimal n ++ ending suffix); suffix = int_named (suffix_of (decimal n ++ ending suffix)) }) (and_both _ _ f.is f.small)
    ∙ (λ i. Some (record { value = f.value i; suffix = f.named i })) in
    of_form (number n suffix) Number K.Integer refl (omega (arith, count, some)) (IsUtf8-from_ascii (decimal n ++ ending suffix) (ascii_of is_low low_byte (decimal n ++ ending suffix) (all_append is_low (decimal n) (ending suffix) (low_digits (decimal n) d.0.1) e.low)))
    (no_first 34 (decimal n) (ending suffix) (omega arith) d.0.0 d.0.1) (or_no _ _ (two_no 47 47 (decimal n ++ ending suffix) slash) (two_no 47 42 (decimal n ++ ending suffix) slash)) f.is (some_if (is_small (decimal n ++ ending suffix)) K.Integer f.small) refl (ap S.number integer)
