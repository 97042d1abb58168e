-- A number gives its sign and its magnitude back.
use Rattle.std.specs.Prelude.{◌≡◌, ℕ, zero, suc, ◌<◌, Bool, true, false, refl, unsigned_abs}
use Rattle.std.proofs.Common.{arith}
use Rattle.aen_base.specs.declared.int_ty.IntTy.{IntTy}
use Rattle.aen_base.specs.declared.number.Num.TheInside.{Inside}
use Rattle.aen_base.specs.Numbers.{signed, is_negative}

abbrev fields : IntTy → Bool → ℕ → Inside
fields ty neg mag = record { ty = ty; neg = neg; mag = mag }

-- a number that is no negative zero gives its sign and its magnitude back
pub signed-back : (ty : IntTy) (neg : Bool) (mag : ℕ) → (neg ≡ true → 0 < mag) →
    fields ty (is_negative (signed neg mag)) (unsigned_abs (signed neg mag)) ≡ fields ty neg mag
signed-back ty false mag h = refl
signed-back ty true zero h = let e : 0 < 0 = h refl in absurd (omega arith)
signed-back ty true (suc m) h = refl
