use Rattle.std.proofs.Common.{◌≡◌, ◌+◌, ◌*◌, [], drop}
use Rattle.rust_ast.specs.Resolved.{exprs, nodes_expr, nodes_exprs}
use Rattle.rust_sums.specs.Sums as spec
use Rattle.rust_sums.proofs.expressions.+expression.Given as goal

abbrev pub decreases-expression : goal.decreases-expression
decreases-expression l = 2 * nodes_expr l.e.now

abbrev pub decreases-arguments : goal.decreases-arguments
decreases-arguments l = 2 * nodes_exprs (exprs l.items.now) + 1

abbrev pub invariant-arguments-loop-item : goal.invariant-arguments-loop-item
invariant-arguments-loop-item l = spec.exprs l.earlier l.count l.parts (exprs (drop l.item-index l.items)) ≡ spec.exprs l.earlier l.count [] (exprs l.items)
