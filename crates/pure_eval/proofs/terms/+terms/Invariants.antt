-- What the terms so far give, and the size of the terms.
use Rattle.std.proofs.Common.{◌≡◌, ◌*◌, ◌++◌, drop}
use Rattle.std.specs.Option.{option_map}
use Rattle.pure_ast.specs.Terms.{terms, nodes_term, nodes_terms}
use Rattle.text_meaning.specs.Terms as spec
use Rattle.pure_eval.proofs.terms.+terms.Given as goal

abbrev pub decreases-term_value : goal.decreases-term_value
decreases-term_value l = 2 * nodes_term l.term.now

abbrev pub decreases-term_values : goal.decreases-term_values
decreases-term_values l = 2 * nodes_terms (terms l.parts.now)

abbrev pub invariant-term_values-loop-part : goal.invariant-term_values-loop-part
invariant-term_values-loop-part l =
    spec.term_values l.variables (terms l.parts) ≡ option_map (λ xs. l.values ++ xs) (spec.term_values l.variables (terms (drop l.part-index l.parts)))
