-- What is copied and what is left are the whole, and less is left each turn.
use Rattle.std.proofs.Common.{◌≡◌, ◌≤◌, ◌++◌}
use Rattle.pure_ast.specs.Values.{pvalues, nodes_pvalues}
use Rattle.pure_eval.proofs.copies.copy_plain.Given as goal

abbrev pub invariant-loop-left : goal.invariant-loop-left
invariant-loop-left l = (l.copied ++ l.left ≡ l.fn.copied ++ l.values) × (nodes_pvalues (pvalues l.left) ≤ nodes_pvalues (pvalues l.values))

abbrev pub decreases-loop-left : goal.decreases-loop-left
decreases-loop-left l = nodes_pvalues (pvalues l.left)
