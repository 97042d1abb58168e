-- What decimal numbers are spelled as.
use Rattle.std.proofs.Common.{◌≡◌, refl, ◌∙◌, ℕ, ◌<◌, ◌≤◌, ◌^◌, Bool, true, false, List, [], ◌∷◌, arith}
use Rattle.std.specs.Prelude.{◌==◌, ◌&&◌}
use Rattle.std.specs.List.{list_all}
use Rattle.std.specs.Char.{is_ascii_digit, digit_value}
use Rattle.std.specs.Fmt.{decimal}
use Rattle.std.specs.Str.Parse.{IsNumeral, AllDigits}
use Rattle.std.proofs.Math.Dec.{lit≤}
use Rattle.std.proofs.lemmas.Bool.Decides.{nat_tests}
use Rattle.std.proofs.lemmas.Fmt.{decimal_is_IsNumeral_wide}
use Rattle.aen_base.specs.declared.int_ty.IntTy.{IntTy}
use Rattle.aen_base.specs.declared.int_ty.IntTy.TheVariants.{U8, U16, U32, U64, U128, Usize, I8, I16, I32, I64, I128, Isize}
use Rattle.aen_base.specs.Numbers as numbers
use Rattle.aen_base.specs.Numbers.{limit, depth}
use Rattle.text_meaning.specs.Names.{are_digits}
use Rattle.text_meaning.specs.Ranges.{IsSmall}

abbrev pub has_minus : List ℕ → Bool
has_minus [] = false
has_minus (c ∷ cs) = c == 45

pub and_left : (a b : Bool) → (a && b) ≡ true → a ≡ true
and_left true b h = refl
and_left false b h = h

pub and_right : (a b : Bool) → (a && b) ≡ true → b ≡ true
and_right true b h = h
and_right false b h = absurd cc

pub and_true : (a b : Bool) → a ≡ true → b ≡ true → (a && b) ≡ true
and_true a b p q = (λ i. p i && b) ∙ q

digit_class : (c : ℕ) → digit_value c < 10 → is_ascii_digit c ≡ true
digit_class c h = grind (arith, nat_tests)

all_class : (ds : List ℕ) → AllDigits 10 ds → list_all is_ascii_digit ds ≡ true
all_class [] h = refl
all_class (c ∷ cs) h = and_true _ _ (digit_class c h.0) (all_class cs h.1)

numeral_class : (ds : List ℕ) → IsNumeral 10 ds → are_digits ds ≡ true
numeral_class [] h = let k : 0 < 0 = h.0 in absurd (omega arith)
numeral_class (c ∷ cs) h = all_class (c ∷ cs) h.1

pub decimal_digits : (n : ℕ) → n < 10 ^ 64 → are_digits (decimal n) ≡ true
decimal_digits n h = numeral_class (decimal n) (decimal_is_IsNumeral_wide n h).0

pub wide : (n : ℕ) → IsSmall n → n < 10 ^ 64
wide n h = let large : 2 ^ 32 ≤ 10 ^ 64 = lit≤ tt in omega arith

pub large_limit : (t : IntTy) → limit t ≤ 2 ^ 128
unfolding numbers.limit
large_limit U8 = lit≤ tt
large_limit U16 = lit≤ tt
large_limit U32 = lit≤ tt
large_limit U64 = lit≤ tt
large_limit U128 = lit≤ tt
large_limit Usize = lit≤ tt
large_limit I8 = lit≤ tt
large_limit I16 = lit≤ tt
large_limit I32 = lit≤ tt
large_limit I64 = lit≤ tt
large_limit I128 = lit≤ tt
large_limit Isize = lit≤ tt

pub large_depth : (t : IntTy) → depth t ≤ 2 ^ 128
unfolding numbers.depth
large_depth U8 = lit≤ tt
large_depth U16 = lit≤ tt
large_depth U32 = lit≤ tt
large_depth U64 = lit≤ tt
large_depth U128 = lit≤ tt
large_depth Usize = lit≤ tt
large_depth I8 = lit≤ tt
large_depth I16 = lit≤ tt
large_depth I32 = lit≤ tt
large_depth I64 = lit≤ tt
large_depth I128 = lit≤ tt
large_depth Isize = lit≤ tt

pub digits_not_minus : (ds : List ℕ) → are_digits ds ≡ true → has_minus ds ≡ false
digits_not_minus [] h = refl
digits_not_minus (c ∷ cs) h = let k = and_left (is_ascii_digit c) (list_all is_ascii_digit cs) h in grind (arith, nat_tests)
