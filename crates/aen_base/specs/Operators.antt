-- What the operators ask of their right side.
use Rattle.std.specs.Prelude.{◌≡◌, ℕ, ◌≤◌, ◌<◌, Bool, true, false, ℤ, pos, negsuc, Option, Some, None}
use Rattle.aen_base.specs.declared.int_ty.IntTy.{IntTy}
use Rattle.aen_base.specs.declared.operators.BinOp.{BinOp}
use Rattle.aen_base.specs.declared.operators.BinOp.TheVariants as B
use Rattle.aen_base.specs.Numbers.{width}

-- the operators whose sides may differ in type (LANGUAGE.md, "Integers")
abbrev pub is_shift : BinOp → Bool
is_shift B.Shl = true
is_shift B.Shr = true
is_shift _ = false

-- how far a number of type t is shifted by z, where that is a number below the width
abbrev pub IsAmount : IntTy → ℤ → Option ℕ → Type 0
IsAmount t (pos k) (Some n) = (n ≡ k) × (k < width t)
IsAmount t (pos k) None = width t ≤ k
IsAmount t (negsuc k) (Some n) = ⊥
IsAmount t (negsuc k) None = Unit {0}
