-- What numbers and names of a well-formed text keep to (TEXT.md, "Well-formed definitions").
use Rattle.std.specs.Prelude.{◌≡◌, ℕ, ◌<◌, ◌^◌, ◌⊎◌, true}
use Rattle.aen_base.specs.declared.operators.Builtin.{Builtin}
use Rattle.aen_base.specs.declared.operators.Builtin.TheVariants.{BoxNew, Replace, Swap}
use Rattle.aen_base.specs.Numbers.{Number, in_range}
use Rattle.pure_ast.specs.declared.comp.BoolOp.{BoolOp}
use Rattle.pure_ast.specs.declared.comp.BoolOp.TheVariants as O
use Rattle.pure_ast.specs.declared.comp.Primitive.{Primitive}
use Rattle.pure_ast.specs.declared.comp.Primitive.TheVariants as P

-- the numbers of variables, loops and backward functions
abbrev pub IsSmall : ℕ → Type 0
IsSmall k = k < 2 ^ 32

-- a number in the range of its type
abbrev pub IsInRange : Number → Type 0
IsInRange n = in_range n.ty n.value ≡ true

-- how many parts a primitive has
abbrev pub truth_arity : BoolOp → ℕ
truth_arity O.Not = 1
truth_arity op = 2

abbrev pub builtin_arity : Builtin → ℕ
builtin_arity BoxNew = 1
builtin_arity Replace = 2
builtin_arity Swap = 2

abbrev pub arity : Primitive → ℕ
arity (P.Arith t op) = 2
arity (P.Neg t) = 1
arity (P.Not t) = 1
arity (P.Compare t op) = 2
arity (P.Bools op) = truth_arity op
arity (P.Cast t u) = 1
arity (P.CastBool t) = 1
arity (P.Forward b) = builtin_arity b
arity (P.Back b r) = builtin_arity b

-- a region of a built-in function with a mutable position among the parameters
abbrev pub IsLentBy : Builtin → ℕ → Type 0
IsLentBy BoxNew r = ⊥
IsLentBy Replace r = r ≡ 0
IsLentBy Swap r = (r ≡ 0) ⊎ (r ≡ 1)

abbrev pub IsPrimitive : Primitive → Type 0
IsPrimitive (P.Back b r) = IsLentBy b r.0
IsPrimitive p = Unit {0}
