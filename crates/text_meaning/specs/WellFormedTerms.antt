-- Well-formed terms, patterns and computations (TEXT.md, "Well-formed definitions").
use Rattle.std.specs.Prelude.{◌≡◌, ℕ, ◌≤◌, length, Option, Some, slice_get}
use Rattle.std.specs.Option.{option_map}
use Rattle.pure_ast.specs.declared.comp.Comp.{Comp}
use Rattle.pure_ast.specs.declared.comp.Comp.TheVariants as C
use Rattle.pure_ast.specs.declared.def.Defs.{Defs}
use Rattle.pure_ast.specs.declared.pat.Pat.{Pat}
use Rattle.pure_ast.specs.declared.pat.Pat.TheVariants as P
use Rattle.pure_ast.specs.Terms.{Term, Terms, var, literal, truth, tuple, built, no_terms, more_terms, terms, terms_list}
use Rattle.text_meaning.specs.Lists.{Each}
use Rattle.text_meaning.specs.Lookups.{parts_of}
use Rattle.text_meaning.specs.Ranges.{IsSmall, IsInRange, arity, IsPrimitive}

abbrev mutual
  pub IsTerm : Defs → Term → Type 0
  IsTerm defs (var v) = IsSmall v
  IsTerm defs (literal n) = IsInRange n
  IsTerm defs (truth b) = Unit {0}
  IsTerm defs (tuple parts) = (length (terms_list parts) ≡ 1 → ⊥) × AreTerms defs parts
  IsTerm defs (built c parts) = (parts_of defs c ≡ Some (length (terms_list parts))) × AreTerms defs parts

  pub AreTerms : Defs → Terms → Type 0
  AreTerms defs no_terms = Unit {0}
  AreTerms defs (more_terms t rest) = IsTerm defs t × AreTerms defs rest

abbrev pub IsPattern : Defs → Pat → Type 0
IsPattern defs (P.Bool b) = Unit {0}
IsPattern defs (P.Tuple variables) = (2 ≤ length variables) × Each IsSmall variables
IsPattern defs (P.Ctor c variables) = (parts_of defs c ≡ Some (length variables)) × Each IsSmall variables

-- how many parameters the definition of this number has; None where there is no such definition
abbrev pub parameters_count : Defs → ℕ → Option ℕ
parameters_count defs d = option_map (λ e. length e.params) (slice_get defs.defs d)

abbrev pub IsComp : Defs → Comp → Type 0
IsComp defs (C.Ok t) = IsTerm defs t
IsComp defs C.Fail = Unit {0}
IsComp defs (C.Call d parts) = (parameters_count defs d.0 ≡ Some (length parts)) × AreTerms defs (terms parts)
IsComp defs (C.Prim p parts) = IsPrimitive p × (arity p ≡ length parts) × AreTerms defs (terms parts)
