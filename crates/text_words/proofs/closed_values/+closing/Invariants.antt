-- The values made so far and the terms that are left; each call is on a smaller term.
use Rattle.std.proofs.Common.{◌≡◌, ◌*◌, ◌++◌, drop}
use Rattle.std.specs.Option.{option_map}
use Rattle.pure_ast.specs.Terms.{terms, nodes_term, nodes_terms}
use Rattle.text_words.specs.Typing as spec
use Rattle.text_words.proofs.closed_values.+closing.Given as goal

abbrev pub decreases-closed_value : goal.decreases-closed_value
decreases-closed_value l = 2 * nodes_term l.term.now

abbrev pub decreases-closed_values : goal.decreases-closed_values
decreases-closed_values l = 2 * nodes_terms (terms l.terms.now)

abbrev pub invariant-closed_values-loop-term : goal.invariant-closed_values-loop-term
invariant-closed_values-loop-term l =
    option_map (λ rest. l.values ++ rest) (spec.closed_values (terms (drop l.term-index l.terms))) ≡ spec.closed_values (terms l.terms)
