-- Results in range and out of it.
use Rattle.std.proofs.Common.{◌≡◌, ℕ, zero, suc, ◌+◌, ◌%◌, ◌^◌, ◌<◌, ◌≤◌, true, ℤ, pos, negsuc, neg_ℤ, Err, refl, arith, unsigned_abs, int_rem}
use Rattle.std.proofs.Math.Nat.{mod-le}
use Rattle.std.proofs.lemmas.Bool.{le-ltb, lt-ltb, ltb-true}
use Rattle.aen_base.specs.declared.int_ty.IntTy.{IntTy}
use Rattle.aen_base.specs.declared.int_ty.IntTy.TheVariants.{U8, U16, U32, U64, U128, Usize, I8, I16, I32, I64, I128, Isize}
use Rattle.aen_base.specs.declared.operators.PanicKind.TheVariants.{Overflow}
use Rattle.aen_base.specs.Numbers.{width, limit, depth, in_range, signed}
use Rattle.aen_base.specs.Arithmetic.{kept}
use Rattle.aen_base.proofs.Sizes.{sizes, most, has_zero}

-- a number of more than 128 bits is in no type's range
pub kept_large : (t : IntTy) (z : ℤ) → 2 ^ 128 ≤ unsigned_abs z → kept t z ≡ Err Overflow
kept_large t (pos n) h =
    let e = le-ltb n (limit t) (omega (arith, sizes t, most t)) in
    rw e refl
kept_large t (negsuc n) h =
    let e = le-ltb n (depth t) (omega (arith, sizes t, most t, has_zero t)) in
    rw e refl

-- a number that is no greater and has the sign of one in range is in range
pub nearer : (t : IntTy) (m n : ℕ) → m ≤ n → in_range t (pos n) ≡ true → in_range t (pos m) ≡ true
nearer t m n h e = lt-ltb m (limit t) (omega (arith, ltb-true n (limit t) e))

pub nearer_below : (t : IntTy) (m n : ℕ) → m ≤ n → in_range t (negsuc n) ≡ true → in_range t (negsuc m) ≡ true
nearer_below t m n h e = lt-ltb m (depth t) (omega (arith, ltb-true n (depth t) e))

pub zero_inside : (t : IntTy) → in_range t (pos 0) ≡ true
zero_inside t = lt-ltb 0 (limit t) (has_zero t)

-- the remainder's magnitude is no greater than the left side's
negated_pos : (t : IntTy) (n r : ℕ) → r ≤ suc n → in_range t (negsuc n) ≡ true → in_range t (neg_ℤ (pos r)) ≡ true
negated_pos t n zero h e = zero_inside t
negated_pos t n (suc r) h e = nearer_below t r n (omega arith) e

pub remainder_inside : (t : IntTy) (a b : ℤ) → in_range t a ≡ true → in_range t (int_rem a b) ≡ true
remainder_inside t (pos n) b e = nearer t (n % unsigned_abs b) n (mod-le n (unsigned_abs b)) e
remainder_inside t (negsuc n) b e = negated_pos t n (suc n % unsigned_abs b) (mod-le (suc n) (unsigned_abs b)) e

-- bits at or above the limit are those of a negative number
pub bits_inside : (t : IntTy) (n m : ℕ) → n < 2 ^ width t → limit t ≤ n → m + n ≡ 2 ^ width t → in_range t (signed true m) ≡ true
bits_inside t n zero h k e = zero_inside t
bits_inside t n (suc m) h k e = lt-ltb m (depth t) (omega (arith, sizes t))

-- each type has the number 1
pub one_inside : (t : IntTy) → in_range t (pos 1) ≡ true
unfolding limit
one_inside U8 = refl
one_inside U16 = refl
one_inside U32 = refl
one_inside U64 = refl
one_inside U128 = refl
one_inside Usize = refl
one_inside I8 = refl
one_inside I16 = refl
one_inside I32 = refl
one_inside I64 = refl
one_inside I128 = refl
one_inside Isize = refl
