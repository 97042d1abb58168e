-- What is left to drop is no larger than the whole, and each turn it is less, or its next part is.
use Rattle.std.proofs.Common.{◌+◌, ◌*◌, ◌≤◌}
use Rattle.pure_ast.specs.Values.{nodes_pvalue, nodes_pvalues, pvalues}
use Rattle.pure_ast.proofs.value.PValue.+drop.Given as goal

abbrev pub invariant-loop-parts : goal.invariant-loop-parts
invariant-loop-parts l = nodes_pvalue l.self + nodes_pvalues (pvalues l.left) ≤ nodes_pvalue l.fn.self

abbrev pub decreases-loop-parts : goal.decreases-loop-parts
decreases-loop-parts l = (nodes_pvalue l.self + nodes_pvalues (pvalues l.left)) * (nodes_pvalue l.fn.self + 1) + nodes_pvalue l.self
