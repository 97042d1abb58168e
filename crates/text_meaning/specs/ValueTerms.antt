-- A value as a term without variables (TEXT.md, "Meaning").
use Rattle.pure_ast.specs.Terms as t
use Rattle.pure_ast.specs.Terms.{Term, Terms}
use Rattle.pure_ast.specs.Values.{PValue, PValues, number, truth, tuple, built, no_pvalues, more_pvalues}

abbrev mutual
  pub value_term : PValue → Term
  value_term (number n) = t.literal n
  value_term (truth b) = t.truth b
  value_term (tuple parts) = t.tuple (value_terms parts)
  value_term (built c parts) = t.built c (value_terms parts)

  -- the terms of values, in order
  pub value_terms : PValues → Terms
  value_terms no_pvalues = t.no_terms
  value_terms (more_pvalues a rest) = t.more_terms (value_term a) (value_terms rest)
