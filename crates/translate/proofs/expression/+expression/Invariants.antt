use Rattle.std.proofs.Common.{◌+◌, ◌*◌, length}
use Rattle.sums_ast.specs.Tree.{nodes_expr, nodes_exprs, exprs}
use Rattle.translate.specs.Spine.{first_nodes}
use Rattle.translate.proofs.Steps.{Along, AlongAll}
use Rattle.translate.proofs.expression.+expression.Given as goal

abbrev pub decreases-expression : goal.decreases-expression
decreases-expression l = 4 * nodes_expr l.expr.now

abbrev pub decreases-operate : goal.decreases-operate
decreases-operate l = 4 * nodes_expr l.right.now.side.now + 1

abbrev pub decreases-begin : goal.decreases-begin
decreases-begin l = 4 * first_nodes l.first.now + 2

abbrev pub decreases-arguments : goal.decreases-arguments
decreases-arguments l = 4 * nodes_exprs (exprs l.items.now) + 1

abbrev pub decreases-expression-loop-right : goal.decreases-expression-loop-right
decreases-expression-loop-right l = length l.rights

abbrev pub invariant-expression-loop-right : goal.invariant-expression-loop-right
invariant-expression-loop-right l = Along l.fn.emitter l.emitter l.atoms l.expr l.rights l.atom

abbrev pub invariant-arguments-loop-item : goal.invariant-arguments-loop-item
invariant-arguments-loop-item l = AlongAll l.fn.emitter l.emitter l.atoms l.items l.item-index l.parts
