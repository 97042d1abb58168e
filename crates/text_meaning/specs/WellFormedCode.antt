-- Well-formed code (TEXT.md, "Well-formed definitions").
use Rattle.pure_ast.specs.declared.def.Defs.{Defs}
use Rattle.pure_ast.specs.Code.{Code, Arms, bind, put, select, last, bind_select, no_arms, more_arms}
use Rattle.text_meaning.specs.Ranges.{IsSmall}
use Rattle.text_meaning.specs.WellFormedTerms.{IsTerm, IsPattern, IsComp}

abbrev mutual
  pub IsCode : Defs → Code → Type 0
  IsCode defs (bind v c rest) = IsSmall v × IsComp defs c × IsCode defs rest
  IsCode defs (put v t rest) = IsSmall v × IsTerm defs t × IsCode defs rest
  IsCode defs (select t arms) = IsTerm defs t × AreArms defs arms
  IsCode defs (last c) = IsComp defs c
  -- a match at the right of a bind has a meaning, but the grammar doesn't have it yet
  IsCode defs (bind_select v t arms rest) = ⊥

  pub AreArms : Defs → Arms → Type 0
  AreArms defs no_arms = Unit {0}
  AreArms defs (more_arms p c rest) = IsPattern defs p × IsCode defs c × AreArms defs rest
