-- Words, names and numbers of a text are lexed as their tokens.
use Rattle.std.proofs.Common.{◌≡◌, refl, ap, sym, subst, ◌∙◌, ℕ, ◌<◌, ◌≤◌, ◌^◌, Bool, true, false, not, ◌&&◌, ◌||◌, inl, inr, List, [], ◌∷◌, ◌++◌, arith, ℤ, pos, negsuc}
use Rattle.std.specs.Prelude.{◌==◌, if◌then◌else◌, encode_utf8_all}
use Rattle.std.specs.Char.{is_ascii_digit, digit_value}
use Rattle.std.specs.Fmt.{decimal, signed_decimal}
use Rattle.std.specs.Str.Parse.{IsNumeral}
use Rattle.std.proofs.Math.Dec.{lit≤}
use Rattle.std.proofs.lemmas.Bool.{ne_eqb, ltb-true}
use Rattle.std.proofs.lemmas.Fmt.{decimal_is_IsNumeral_wide}
use Rattle.std.proofs.lemmas.Str.{encodes-chars}
use Rattle.aen_base.specs.declared.int_ty.IntTy.{IntTy}
use Rattle.aen_base.specs.declared.int_ty.IntTy.TheVariants.{U8, U16, U32, U64, U128, Usize, I8, I16, I32, I64, I128, Isize}
use Rattle.aen_base.specs.Numbers as numbers
use Rattle.aen_base.specs.Numbers.{Number, limit, in_range}
use Rattle.text_meaning.specs.Lexing.{IsMarked, quoted}
use Rattle.text_meaning.specs.Names.{IsName, begins, is_word_start, is_identifier, is_bare}
use Rattle.text_meaning.specs.Tokens.{word, id, number, var_text}
use Rattle.text_meaning.specs.Ranges.{IsInRange}
use Rattle.text_meaning.specs.ShownNames.{name_text}
use Rattle.text_meaning.specs.SpelledNames.{var_token}
use Rattle.text_meaning.specs.Words.{int_word}
use Rattle.lean_printer.proofs.Lays.{Lays, free, apart, not_true, token_run}

-- a word, which begins with no `)`
pub word_lays : (w : List ℕ) → ((rest : List ℕ) → apart (w ++ rest) ≡ true) → Lays apart free w (word w ∷ [])
word_lays w k = record {
  run = λ rest ts h l. token_run (word w) w rest ts (refl, not_true _ h) l;
  start = λ rest h. k rest;
}

pub var_lays : (v : ℕ) → Lays apart free (var_text v) (var_token v ∷ [])
var_lays v = word_lays (var_text v) (λ rest. refl)

int_apart : (t : IntTy) (rest : List ℕ) → apart (int_word t ++ rest) ≡ true
int_apart U8 rest = refl
int_apart U16 rest = refl
int_apart U32 rest = refl
int_apart U64 rest = refl
int_apart U128 rest = refl
int_apart Usize rest = refl
int_apart I8 rest = refl
int_apart I16 rest = refl
int_apart I32 rest = refl
int_apart I64 rest = refl
int_apart I128 rest = refl
int_apart Isize rest = refl

pub int_lays : (t : IntTy) → Lays apart free (int_word t) (word (int_word t) ∷ [])
int_lays t = word_lays (int_word t) (int_apart t)

-- names
pub and_left : (a b : Bool) → (a && b) ≡ true → a ≡ true
and_left true b h = refl
and_left false b h = h

start_apart : (c : ℕ) → is_word_start c ≡ true → not (c == 41) ≡ true
start_apart c h = ap not (ne_eqb c 41 (λ e. let k : is_word_start 41 ≡ true = subst (λ x. is_word_start x ≡ true) e h in absurd cc))

bare_apart : (n rest : List ℕ) → begins is_word_start n ≡ true → apart (n ++ rest) ≡ true
bare_apart [] rest h = absurd cc
bare_apart (c ∷ cs) rest h = start_apart c h

pub bare_lays : (n : List ℕ) → is_bare n ≡ true → Lays apart free n (id n ∷ [])
bare_lays n e = record {
  run = λ rest ts h l. token_run (id n) n rest ts (inl (record { same = refl; bare = e; ends = not_true _ h })) l;
  start = λ rest h. bare_apart n rest (and_left _ _ (and_left _ _ (and_left _ _ e)));
}

marked : (n : List ℕ) → IsName n → IsMarked n (quoted n)
marked n h = record {
  inner = n;
  same = refl;
  utf8 = h.utf8;
  identifier = h.identifier;
  normal = ap is_identifier h.normal ∙ h.identifier;
  is_name = sym (ap encode_utf8_all h.normal ∙ encodes-chars n h.utf8);
}

marked_lays : (n : List ℕ) → IsName n → Lays apart free (quoted n) (id n ∷ [])
marked_lays n h = record {
  run = λ rest ts f l. token_run (id n) (quoted n) rest ts (inr (marked n h)) l;
  start = λ rest f. refl;
}

name_by : (test : Bool) (n : List ℕ) → is_bare n ≡ test → IsName n → Lays apart free (if test then n else quoted n) (id n ∷ [])
name_by true n e h = bare_lays n e
name_by false n e h = marked_lays n h

-- a name is laid out so that it is read back
abbrev pub NameLays : List ℕ → Type 0
NameLays n = Lays apart free (name_text n) (id n ∷ [])

pub name_lays : (n : List ℕ) → IsName n → NameLays n
name_lays n h = name_by (is_bare n) n refl h

bare_text : (test : Bool) (n : List ℕ) → is_bare n ≡ test → test ≡ true → Lays apart free (if test then n else quoted n) (id n ∷ [])
bare_text true n e h = bare_lays n e
bare_text false n e h = absurd cc

pub plain_lays : (n : List ℕ) → is_bare n ≡ true → NameLays n
plain_lays n e = bare_text (is_bare n) n refl e

-- numbers
free_or : (a b : Bool) → not (a || b) ≡ true → b ≡ false
free_or true b h = absurd cc
free_or false b h = not_true b h

free_digit : (rest : List ℕ) → free rest ≡ true → begins is_ascii_digit rest ≡ false
free_digit [] h = refl
free_digit (c ∷ rest) h = free_or (is_word_start c) (is_ascii_digit c) h

limit_wide : (t : IntTy) → limit t ≤ 2 ^ 128
unfolding numbers.limit
limit_wide U8 = lit≤ tt
limit_wide U16 = lit≤ tt
limit_wide U32 = lit≤ tt
limit_wide U64 = lit≤ tt
limit_wide U128 = lit≤ tt
limit_wide Usize = lit≤ tt
limit_wide I8 = lit≤ tt
limit_wide I16 = lit≤ tt
limit_wide I32 = lit≤ tt
limit_wide I64 = lit≤ tt
limit_wide I128 = lit≤ tt
limit_wide Isize = lit≤ tt

digits_apart : (ds rest : List ℕ) → IsNumeral 10 ds → apart (ds ++ rest) ≡ true
digits_apart [] rest h = let k : 0 < 0 = h.0 in absurd (omega arith)
digits_apart (c ∷ cs) rest h = ap not (ne_eqb c 41 (λ e. let k : digit_value 41 < 10 = subst (λ x. digit_value x < 10) e h.1.0 in omega arith))

number_apart : (t : IntTy) (z : ℤ) (rest : List ℕ) → in_range t z ≡ true → apart (signed_decimal z ++ rest) ≡ true
number_apart t (pos n) rest h =
    let small = ltb-true n (limit t) h in
    let wide = limit_wide t in
    let large : 2 ^ 128 ≤ 10 ^ 64 = lit≤ tt in
    digits_apart (decimal n) rest (decimal_is_IsNumeral_wide n (omega arith)).0
number_apart t (negsuc n) rest h = refl

pub integer_lays : (n : Number) → IsInRange n → Lays apart free (signed_decimal n.value) (number n.value ∷ [])
integer_lays n r = record {
  run = λ rest ts h l. token_run (number n.value) (signed_decimal n.value) rest ts (refl, free_digit rest h) l;
  start = λ rest h. number_apart n.ty n.value rest r;
}
