-- The signatures of the built-in functions (LANGUAGE.md, "Built-in functions").
use Rattle.std.specs.Prelude.{ℕ, true, [], ◌∷◌}
use Rattle.aen_base.specs.declared.ids.RegionId.{RegionId}
use Rattle.aen_base.specs.declared.operators.Builtin.{Builtin}
use Rattle.aen_base.specs.declared.operators.Builtin.TheVariants.{BoxNew, Replace, Swap}
use Rattle.core_ty.specs.declared.decl.Sig.{Sig}
use Rattle.core_ty.specs.Types as t

abbrev region : ℕ → RegionId
region k = record { 0 = k }

-- `&mut T` with this region, for the only type parameter T
abbrev mutable_to : ℕ → t.Ty
mutable_to k = t.ref (region k) true (t.param 0)

-- `Box::new<T>(T) -> Box<T>`, `mem::replace<'a, T>(&'a mut T, T) -> T`,
-- `mem::swap<'a, 'b, T>(&'a mut T, &'b mut T)`
abbrev pub builtin_of : Builtin → Sig
builtin_of BoxNew = record { type_params = 1; regions = 0; params = t.param 0 ∷ []; result = t.boxed (t.param 0) }
builtin_of Replace = record { type_params = 1; regions = 1; params = mutable_to 0 ∷ t.param 0 ∷ []; result = t.param 0 }
builtin_of Swap = record { type_params = 1; regions = 2; params = mutable_to 0 ∷ mutable_to 1 ∷ []; result = t.unit }
