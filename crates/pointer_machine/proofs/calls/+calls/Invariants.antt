use Rattle.std.proofs.Common.{◌≡◌, ◌+◌, ◌*◌, List, [], length, drop}
use Rattle.std.specs.Prelude.{Ok}
use Rattle.aen_base.specs.Numbers.{Number}
use Rattle.aen_base.specs.declared.span.Span.{Span}
use Rattle.sums_ast.specs.Tree.{nodes_expr, nodes_exprs, nodes_stmts, nodes_block, exprs, stmts, MaybeExpr}
use Rattle.pointer_machine.specs.Values as spec
use Rattle.pointer_machine.specs.Spine as spine
use Rattle.pointer_machine.specs.Size.{weight}
use Rattle.pointer_machine.proofs.calls.+calls.Given as goal

abbrev pub decreases-expression : goal.decreases-expression
decreases-expression l = l.bound * weight l.program.now.functions + 4 * nodes_expr l.expr.now

abbrev pub decreases-begin : goal.decreases-begin
decreases-begin l = l.bound * weight l.program.now.functions + (4 * spine.first_nodes l.first + 2)

abbrev pub decreases-arguments : goal.decreases-arguments
decreases-arguments l = l.bound * weight l.program.now.functions + (4 * nodes_exprs (exprs l.items.now) + 1)

abbrev pub decreases-call : goal.decreases-call
decreases-call l = l.bound * weight l.program.now.functions

abbrev pub decreases-body : goal.decreases-body
decreases-body l = l.bound * weight l.program.now.functions + (4 * nodes_block l.block.now + 1)

abbrev pub decreases-declare : goal.decreases-declare
decreases-declare l = l.bound * weight l.program.now.functions + (4 * nodes_stmts (stmts l.statements.now) + 1)

abbrev pub decreases-expression-loop-right : goal.decreases-expression-loop-right
decreases-expression-loop-right l = length l.rights

abbrev pub invariant-expression-loop-right : goal.invariant-expression-loop-right
invariant-expression-loop-right l = record {
  whole : spine.rights_value (spec.call_value l.program l.bound) l.variables l.rights (Ok l.value) ≡ spec.value (spec.call_value l.program l.bound) l.variables l.expr;
  below : spine.AreBelow spine.right_side (nodes_expr l.expr) l.rights;
}

abbrev pub invariant-arguments-loop-item : goal.invariant-arguments-loop-item
invariant-arguments-loop-item l =
    (f : List Number → spec.Valued) → spec.values (spec.call_value l.program l.bound) l.variables (exprs (drop l.item-index l.items)) l.values f
    ≡ spec.values (spec.call_value l.program l.bound) l.variables (exprs l.items) [] f

abbrev pub invariant-declare-loop-statement : goal.invariant-declare-loop-statement
invariant-declare-loop-statement l =
    (s : Span) (last : MaybeExpr) → spec.body_value (spec.call_value l.program l.bound) s l.variables (stmts (drop l.statement-index l.statements)) last
    ≡ spec.body_value (spec.call_value l.program l.bound) s l.fn.values (stmts l.statements) last
