-- The value of a term; None where it has a variable without a value (TEXT.md, "Meaning").
use Rattle.std.specs.Prelude.{List, [], ◌∷◌, Option, Some}
use Rattle.std.specs.Option.{option_map, option_and_then}
use Rattle.pure_ast.specs.Terms as t
use Rattle.pure_ast.specs.Values.{PValue, number, truth, tuple, built, pvalues}
use Rattle.text_meaning.specs.Environment.{Environment, lookup}

abbrev mutual
  pub term_value : Environment → t.Term → Option PValue
  term_value env (t.var v) = lookup env v
  term_value env (t.literal n) = Some (number n)
  term_value env (t.truth b) = Some (truth b)
  term_value env (t.tuple parts) = option_map (λ values. tuple (pvalues values)) (term_values env parts)
  term_value env (t.built c parts) = option_map (λ values. built c (pvalues values)) (term_values env parts)

  -- the values of terms, in order
  pub term_values : Environment → t.Terms → Option (List PValue)
  term_values env t.no_terms = Some []
  term_values env (t.more_terms x rest) =
      option_and_then (λ value. option_map (λ values. value ∷ values) (term_values env rest)) (term_value env x)
