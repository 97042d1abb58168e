-- Integers of the twelve types: their ranges, and a number as its type and a whole number
-- (LANGUAGE.md, "Integers").
use Rattle.std.specs.Prelude.{◌≡◌, ℕ, zero, suc, ◌-◌, ◌^◌, Bool, true, false, nat_lt, if◌then◌else◌, ℤ, pos, negsuc}
use Rattle.std.specs.Coded.{Coded, coded_ℤ}
use Rattle.std.proofs.Common.{ap}
use base.Stored.{Gv, gnil, gnum, gcons}
use Rattle.aen_base.specs.declared.int_ty.IntTy.{IntTy}
use Rattle.aen_base.specs.declared.int_ty.IntTy.TheVariants.{U8, U16, U32, U64, U128, Usize, I8, I16, I32, I64, I128, Isize}
use Rattle.aen_base.specs.contracts.int_ty.IntTy as int_ty

-- the number of bits
abbrev pub width : IntTy → ℕ
width U8 = 8
width U16 = 16
width U32 = 32
width U64 = 64
width U128 = 128
width Usize = 64
width I8 = 8
width I16 = 16
width I32 = 32
width I64 = 64
width I128 = 128
width Isize = 64

abbrev pub is_signed : IntTy → Bool
is_signed U8 = false
is_signed U16 = false
is_signed U32 = false
is_signed U64 = false
is_signed U128 = false
is_signed Usize = false
is_signed I8 = true
is_signed I16 = true
is_signed I32 = true
is_signed I64 = true
is_signed I128 = true
is_signed Isize = true

-- the first number above the range
unfoldable pub limit : IntTy → ℕ
limit t = if is_signed t then 2 ^ (width t - 1) else 2 ^ width t

-- how many negative numbers are in the range
unfoldable pub depth : IntTy → ℕ
depth t = if is_signed t then 2 ^ (width t - 1) else 0

abbrev pub in_range : IntTy → ℤ → Bool
in_range t (pos n) = nat_lt n (limit t)
in_range t (negsuc n) = nat_lt n (depth t)

-- a number: its type and the whole number
pub record Number : Type 0 where
  pub ty : IntTy
  pub value : ℤ

-- the whole number of a sign and a magnitude
abbrev pub signed : Bool → ℕ → ℤ
signed false m = pos m
signed true zero = pos 0
signed true (suc m) = negsuc m

abbrev pub is_negative : ℤ → Bool
is_negative (pos n) = false
is_negative (negsuc n) = true

abbrev head : Gv → Gv
head gnil = gnil
head (gnum n) = gnil
head (gcons a b) = a

abbrev tail : Gv → Gv
tail gnil = gnil
tail (gnum n) = gnil
tail (gcons a b) = b

abbrev pub stored : Number → Gv
stored n = gcons (int_ty.the_row.coded.code n.ty) (coded_ℤ.code n.value)

pub stored_inj : (x y : Number) → stored x ≡ stored y → x ≡ y
stored_inj x y p i = record { ty = int_ty.the_row.coded.inj x.ty y.ty (ap head p) i; value = coded_ℤ.inj x.value y.value (ap tail p) i }

abbrev pub coded_number : Coded Number
coded_number = record { code = stored; inj = stored_inj }
