-- Numbers are read as they are spelled.
use Rattle.std.proofs.Common.{◌≡◌, refl, ◌∙◌, ℕ, suc, ◌+◌, ◌<◌, ◌≤◌, ◌^◌, true, false, List, [], ◌∷◌, ◌++◌, Some, arith, ℤ, pos, negsuc}
use Rattle.std.specs.Prelude.{nat_lt}
use Rattle.std.specs.List.{list_all}
use Rattle.std.specs.Char.{is_ascii_digit}
use Rattle.std.specs.Fmt.{decimal, signed_decimal}
use Rattle.std.specs.Str.Parse.{digits_value}
use Rattle.std.proofs.Math.Dec.{lit≤}
use Rattle.std.proofs.lemmas.Bool.{ltb-true}
use Rattle.std.proofs.lemmas.Bool.Decides.{nat_tests}
use Rattle.std.proofs.lemmas.Fmt.{decimal_is_IsNumeral_wide}
use Rattle.aen_base.specs.declared.int_ty.IntTy.{IntTy}
use Rattle.aen_base.specs.declared.int_ty.IntTy.TheVariants.{U8, U16, U32, U64, U128, Usize, I8, I16, I32, I64, I128, Isize}
use Rattle.aen_base.specs.Numbers as numbers
use Rattle.aen_base.specs.Numbers.{Number, limit, depth, in_range, signed}
use Rattle.text_meaning.specs.Names.{are_digits}
use Rattle.text_meaning.specs.Ranges.{IsSmall, IsInRange}
use Rattle.raw_meaning.specs.Numbers.{small_number, numbered, number_of, magnitude, has_minus}
use Rattle.text_syntax.specs.Among.{and_left}
use Rattle.raw_completeness.specs.Booleans.{both_true}
use Rattle.raw_completeness.specs.Classes.{decimal_digits, wide}
use Rattle.raw_completeness.specs.Lists.{same_number, same_bytes}

less_true : (a b : ℕ) → a < b → nat_lt a b ≡ true
less_true a b h = grind (arith, nat_tests)

small_read : (n : ℕ) → IsSmall n → small_number (decimal n) ≡ Some n
small_read n h =
    let d = decimal_digits n (wide n h) in
    let v = (decimal_is_IsNumeral_wide n (wide n h)).1 in
    rw d (rw v (rw (both_true _ _ (less_true n (2 ^ 32) h) (same_bytes (decimal n))) refl))

pub numbered_read : (p : List ℕ) (n : ℕ) → IsSmall n → numbered p (p ++ decimal n) ≡ Some n
numbered_read [] n h = small_read n h
numbered_read (c ∷ cs) n h = rw (same_number c) (numbered_read cs n h)

-- ---- numbers of a type

large_limit : (t : IntTy) → limit t ≤ 2 ^ 128
unfolding numbers.limit
large_limit U8 = lit≤ tt
large_limit U16 = lit≤ tt
large_limit U32 = lit≤ tt
large_limit U64 = lit≤ tt
large_limit U128 = lit≤ tt
large_limit Usize = lit≤ tt
large_limit I8 = lit≤ tt
large_limit I16 = lit≤ tt
large_limit I32 = lit≤ tt
large_limit I64 = lit≤ tt
large_limit I128 = lit≤ tt
large_limit Isize = lit≤ tt

large_depth : (t : IntTy) → depth t ≤ 2 ^ 128
unfolding numbers.depth
large_depth U8 = lit≤ tt
large_depth U16 = lit≤ tt
large_depth U32 = lit≤ tt
large_depth U64 = lit≤ tt
large_depth U128 = lit≤ tt
large_depth Usize = lit≤ tt
large_depth I8 = lit≤ tt
large_depth I16 = lit≤ tt
large_depth I32 = lit≤ tt
large_depth I64 = lit≤ tt
large_depth I128 = lit≤ tt
large_depth Isize = lit≤ tt

digits_not_minus : (ds : List ℕ) → are_digits ds ≡ true → has_minus ds ≡ false
digits_not_minus [] h = refl
digits_not_minus (c ∷ cs) h = let k = and_left (is_ascii_digit c) (list_all is_ascii_digit cs) h in grind (arith, nat_tests)

plain_magnitude : (ds : List ℕ) → has_minus ds ≡ false → magnitude ds ≡ digits_value 10 ds
plain_magnitude [] h = refl
plain_magnitude (c ∷ cs) h = rw h refl

value_read : (z : ℤ) (t : IntTy) → in_range t z ≡ true → signed (has_minus (signed_decimal z)) (magnitude (signed_decimal z)) ≡ z
value_read (pos n) t h =
    let a = ltb-true n (limit t) h in
    let b = large_limit t in
    let large : 2 ^ 128 ≤ 10 ^ 64 = lit≤ tt in
    let w : n < 10 ^ 64 = omega arith in
    let m = digits_not_minus (decimal n) (decimal_digits n w) in
    let v = plain_magnitude (decimal n) m ∙ (decimal_is_IsNumeral_wide n w).1 in
    rw (m, v) refl
value_read (negsuc n) t h =
    let a = ltb-true n (depth t) h in
    let b = large_depth t in
    let large : 2 ^ 128 + 1 ≤ 10 ^ 64 = lit≤ tt in
    let w : suc n < 10 ^ 64 = omega arith in
    let v = (decimal_is_IsNumeral_wide (suc n) w).1 in
    rw v refl

pub number_read : (n : Number) → IsInRange n → number_of (signed_decimal n.value) n.ty ≡ Some n
number_read n h =
    let v = value_read n.value n.ty h in
    rw v (rw (both_true _ _ (same_bytes (signed_decimal n.value)) h) refl)
