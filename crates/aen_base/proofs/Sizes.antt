-- How many numbers a type has.
use Rattle.std.proofs.Common.{◌≡◌, ℕ, zero, suc, ◌+◌, ◌^◌, ◌<◌, ◌≤◌, true, refl, arith, lit<, lit≤, leb}
use Rattle.std.proofs.lemmas.Bool.Decides.{nat_tests}
use Rattle.aen_base.specs.declared.int_ty.IntTy.{IntTy}
use Rattle.aen_base.specs.declared.int_ty.IntTy.TheVariants.{U8, U16, U32, U64, U128, Usize, I8, I16, I32, I64, I128, Isize}
use Rattle.aen_base.specs.Numbers.{width, limit, depth, in_range, signed}

-- as many as its bits can tell apart
pub sizes : (t : IntTy) → limit t + depth t ≡ 2 ^ width t
unfolding limit depth
sizes U8 = refl
sizes U16 = refl
sizes U32 = refl
sizes U64 = refl
sizes U128 = refl
sizes Usize = refl
sizes I8 = refl
sizes I16 = refl
sizes I32 = refl
sizes I64 = refl
sizes I128 = refl
sizes Isize = refl

-- and no more than 128 bits can
pub most : (t : IntTy) → 2 ^ width t ≤ 2 ^ 128
most U8 = lit≤ tt
most U16 = lit≤ tt
most U32 = lit≤ tt
most U64 = lit≤ tt
most U128 = lit≤ tt
most Usize = lit≤ tt
most I8 = lit≤ tt
most I16 = lit≤ tt
most I32 = lit≤ tt
most I64 = lit≤ tt
most I128 = lit≤ tt
most Isize = lit≤ tt

-- each type has the number 0
pub has_zero : (t : IntTy) → 0 < limit t
unfolding limit
has_zero U8 = lit< tt
has_zero U16 = lit< tt
has_zero U32 = lit< tt
has_zero U64 = lit< tt
has_zero U128 = lit< tt
has_zero Usize = lit< tt
has_zero I8 = lit< tt
has_zero I16 = lit< tt
has_zero I32 = lit< tt
has_zero I64 = lit< tt
has_zero I128 = lit< tt
has_zero Isize = lit< tt

-- a negative number is in range where its magnitude is no greater than the least number's
pub below_depth : (t : IntTy) (m : ℕ) → leb m (depth t) ≡ in_range t (signed true m)
below_depth t zero = let h = has_zero t in grind (arith, nat_tests)
below_depth t (suc m) = grind (arith, nat_tests)
