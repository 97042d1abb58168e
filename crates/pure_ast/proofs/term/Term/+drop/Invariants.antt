-- What is left to drop is no larger than the whole, and each turn it is less, or its next part is.
use Rattle.std.proofs.Common.{◌+◌, ◌*◌, ◌≤◌}
use Rattle.pure_ast.specs.Terms.{nodes_term, nodes_terms, terms}
use Rattle.pure_ast.proofs.term.Term.+drop.Given as goal

abbrev pub invariant-loop-parts : goal.invariant-loop-parts
invariant-loop-parts l = nodes_term l.self + nodes_terms (terms l.left) ≤ nodes_term l.fn.self

abbrev pub decreases-loop-parts : goal.decreases-loop-parts
decreases-loop-parts l = (nodes_term l.self + nodes_terms (terms l.left)) * (nodes_term l.fn.self + 1) + nodes_term l.self
