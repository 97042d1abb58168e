-- What is left to drop is no larger than the whole.
use Rattle.std.proofs.Common.{◌≤◌}
use Rattle.sums_ast.specs.Tree.{nodes_expr}
use Rattle.sums_ast.proofs.tree.Expr.+drop.Given as goal

abbrev pub invariant-loop-arguments : goal.invariant-loop-arguments
invariant-loop-arguments l = nodes_expr l.self ≤ nodes_expr l.fn.self
