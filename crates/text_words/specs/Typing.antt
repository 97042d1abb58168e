-- Whether a value has a type, as a test; a term without variables as its value.
use Rattle.std.specs.Prelude.{Bool, true, false, ◌&&◌, List, [], ◌∷◌, Option, Some, None}
use Rattle.std.specs.Option.{option_map, option_and_then}
use denote.Enum.Bare.{sameb}
use Rattle.aen_base.specs.declared.int_ty.IntTy.{IntTy}
use Rattle.aen_base.specs.contracts.int_ty.IntTy.{the_type}
use Rattle.pure_ast.specs.declared.def.Defs.{Defs}
use Rattle.pure_ast.specs.Terms as t
use Rattle.pure_ast.specs.Types.{PTy, integer, boolean}
use Rattle.pure_ast.specs.Values as v
use Rattle.pure_ast.specs.Values.{PValue, PValues, no_pvalues, more_pvalues, pvalues}
use Rattle.text_meaning.specs.HasType.{tuple_types, part_types}

abbrev pub is_integer : PTy → IntTy → Bool
is_integer (integer a) b = sameb the_type a b
is_integer _ b = false

abbrev pub is_boolean : PTy → Bool
is_boolean boolean = true
is_boolean _ = false

abbrev mutual
  pub has_type : Defs → PTy → PValue → Bool
  has_type defs t (v.number n) = is_integer t n.ty
  has_type defs t (v.truth b) = is_boolean t
  has_type defs t (v.tuple parts) = have_types defs (tuple_types t) parts
  has_type defs t (v.built c parts) = have_types defs (part_types defs t c) parts

  -- as many values as types, each of its own
  pub have_types : Defs → Option (List PTy) → PValues → Bool
  have_types defs None parts = false
  have_types defs (Some []) no_pvalues = true
  have_types defs (Some []) (more_pvalues a rest) = false
  have_types defs (Some (t ∷ types)) no_pvalues = false
  have_types defs (Some (t ∷ types)) (more_pvalues a rest) = has_type defs t a && have_types defs (Some types) rest

-- the value of a term; None where it has a variable
abbrev mutual
  pub closed_value : t.Term → Option PValue
  closed_value (t.var w) = None
  closed_value (t.literal n) = Some (v.number n)
  closed_value (t.truth b) = Some (v.truth b)
  closed_value (t.tuple parts) = option_map (λ values. v.tuple (pvalues values)) (closed_values parts)
  closed_value (t.built c parts) = option_map (λ values. v.built c (pvalues values)) (closed_values parts)

  pub closed_values : t.Terms → Option (List PValue)
  closed_values t.no_terms = Some []
  closed_values (t.more_terms x rest) =
      option_and_then (λ value. option_map (λ values. value ∷ values) (closed_values rest)) (closed_value x)
