-- Short spellings of spans, numbers of things and integers.
use Rattle.std.specs.Prelude.{ℕ, ℤ}
use Rattle.aen_base.specs.declared.span.Span.{Span}
use Rattle.aen_base.specs.declared.ids.TypeId.{TypeId}
use Rattle.aen_base.specs.declared.ids.RegionId.{RegionId}
use Rattle.aen_base.specs.declared.int_ty.IntTy.{IntTy}
use Rattle.aen_base.specs.Numbers.{Number}

abbrev pub sp : ℕ → ℕ → Span
sp a b = record { lo = a; hi = b }

abbrev pub ty : ℕ → TypeId
ty n = record { 0 = n }

abbrev pub rg : ℕ → RegionId
rg n = record { 0 = n }

abbrev pub nu : IntTy → ℤ → Number
nu i z = record { ty = i; value = z }
