-- A value has a type where its form is that of the type (TEXT.md, "Meaning").
use Rattle.std.specs.Prelude.{◌≡◌, ℕ, ◌==◌, if◌then◌else◌, List, [], ◌∷◌, map, Option, Some, None, slice_get}
use Rattle.std.specs.Option.{option_map}
use Rattle.pure_ast.specs.declared.ctor.CtorId.{CtorId}
use Rattle.pure_ast.specs.declared.ctor.CtorId.TheVariants.{Of, Brk, Ret}
use Rattle.pure_ast.specs.declared.def.Defs.{Defs}
use Rattle.pure_ast.specs.Types.{PTy, PTys, integer, boolean, unit, product, named, parameter, exit, no_ptys, more_ptys, ptys_list}
use Rattle.pure_ast.specs.Values as v
use Rattle.pure_ast.specs.Values.{PValue, PValues, no_pvalues, more_pvalues}
use Rattle.text_meaning.specs.Lookups.{Variant, variant}

-- the type that is there, or the type parameter in this place
abbrev pub or_parameter : ℕ → Option PTy → PTy
or_parameter k None = parameter k
or_parameter k (Some t) = t

-- a type with these types in place of the type parameters
abbrev mutual
  pub put_in : List PTy → PTy → PTy
  put_in args (integer t) = integer t
  put_in args boolean = boolean
  put_in args unit = unit
  put_in args (product parts) = product (put_in_all args parts)
  put_in args (named t parts) = named t (put_in_all args parts)
  put_in args (parameter k) = or_parameter k (slice_get args k)
  put_in args (exit a b) = exit (put_in args a) (put_in args b)

  pub put_in_all : List PTy → PTys → PTys
  put_in_all args no_ptys = no_ptys
  put_in_all args (more_ptys a rest) = more_ptys (put_in args a) (put_in_all args rest)

-- the types of a variant's fields, where the declared type has these arguments
abbrev pub field_types : List PTy → Variant → List PTy
field_types args v = map (λ f. put_in args f.1) v.1

-- the types of the parts of a tuple of this type; None where the type has no tuples
abbrev pub tuple_types : PTy → Option (List PTy)
tuple_types unit = Some []
tuple_types (product parts) = Some (ptys_list parts)
tuple_types _ = None

-- the types of a constructor's parts in this type; None where the type has no such constructor
abbrev pub part_types : Defs → PTy → CtorId → Option (List PTy)
part_types defs (named t args) (Of u k) = if t == u.0 then option_map (field_types (ptys_list args)) (variant defs t k) else None
part_types defs (exit a b) Brk = Some (a ∷ [])
part_types defs (exit a b) Ret = Some (b ∷ [])
part_types defs _ _ = None

-- a value of a type without type parameters: a number of the integer type, a bool, the empty tuple
-- of unit, and parts of the types that the product or the constructor has there
abbrev mutual
  pub HasType : Defs → PTy → PValue → Type 0
  HasType defs t (v.number n) = t ≡ integer n.ty
  HasType defs t (v.truth b) = t ≡ boolean
  HasType defs t (v.tuple parts) = HaveTypes defs (tuple_types t) parts
  HasType defs t (v.built c parts) = HaveTypes defs (part_types defs t c) parts

  -- as many values as types, each of its own
  pub HaveTypes : Defs → Option (List PTy) → PValues → Type 0
  HaveTypes defs None parts = ⊥
  HaveTypes defs (Some []) no_pvalues = Unit {0}
  HaveTypes defs (Some []) (more_pvalues a rest) = ⊥
  HaveTypes defs (Some (t ∷ types)) no_pvalues = ⊥
  HaveTypes defs (Some (t ∷ types)) (more_pvalues a rest) = HasType defs t a × HaveTypes defs (Some types) rest
