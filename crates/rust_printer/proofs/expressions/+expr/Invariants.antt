-- What is printed so far and what is left are the whole; each call is on a smaller tree.
use Rattle.std.proofs.Common.{◌≡◌, ◌+◌, ◌*◌, ◌++◌, drop, string_bytes}
use Rattle.rust_ast.specs.Source.{nodes_expr, nodes_maybeexpr, nodes_block, nodes_stmt, nodes_exprs, nodes_arms, nodes_inits, nodes_stmts, exprs, arms, inits, stmts, maybeexpr}
use Rattle.rust_printer.specs.ShownExpressions.{exprs_text, arms_text, inits_text, stmts_text}
use Rattle.rust_printer.proofs.expressions.+expr.Given as goal

abbrev pub decreases-put_expr : goal.decreases-put_expr
decreases-put_expr l = 8 * nodes_expr l.expr.now

abbrev pub decreases-put_unless : goal.decreases-put_unless
decreases-put_unless l = 8 * nodes_expr l.expr.now + 1

abbrev pub decreases-put_operand : goal.decreases-put_operand
decreases-put_operand l = 8 * nodes_expr l.expr.now + 2

abbrev pub decreases-put_leading : goal.decreases-put_leading
decreases-put_leading l = 8 * nodes_expr l.expr.now + 2

abbrev pub decreases-put_both : goal.decreases-put_both
decreases-put_both l = 8 * (nodes_expr l.a.now + nodes_expr l.b.now) + 4

abbrev pub decreases-put_after : goal.decreases-put_after
decreases-put_after l = 8 * nodes_expr l.expr.now + 4

abbrev pub decreases-put_borrow : goal.decreases-put_borrow
decreases-put_borrow l = 8 * nodes_expr l.expr.now + 5

abbrev pub decreases-put_minus : goal.decreases-put_minus
decreases-put_minus l = 8 * nodes_expr l.expr.now + 4

abbrev pub decreases-put_field : goal.decreases-put_field
decreases-put_field l = 8 * nodes_expr l.expr.now + 4

abbrev pub decreases-put_cast : goal.decreases-put_cast
decreases-put_cast l = 8 * nodes_expr l.expr.now + 4

abbrev pub decreases-put_exit : goal.decreases-put_exit
decreases-put_exit l = 8 * nodes_maybeexpr (maybeexpr l.value.now) + 4

abbrev pub decreases-put_branch : goal.decreases-put_branch
decreases-put_branch l = 8 * (nodes_expr l.asked.now + nodes_block l.body.now + nodes_expr l.other.now) + 4

abbrev pub decreases-put_matched : goal.decreases-put_matched
decreases-put_matched l = 8 * nodes_expr l.value.now + 3

abbrev pub decreases-put_let_branch : goal.decreases-put_let_branch
decreases-put_let_branch l = 8 * (nodes_expr l.value.now + nodes_expr l.body.now + nodes_expr l.other.now) + 4

abbrev pub decreases-put_select : goal.decreases-put_select
decreases-put_select l = 8 * (nodes_expr l.value.now + nodes_arms (arms l.arms.now)) + 4

abbrev pub decreases-put_loop : goal.decreases-put_loop
decreases-put_loop l = 8 * nodes_block l.body.now + 5

abbrev pub decreases-put_asking : goal.decreases-put_asking
decreases-put_asking l = 8 * nodes_maybeexpr (maybeexpr l.value.now) + 4

abbrev pub decreases-put_asked : goal.decreases-put_asked
decreases-put_asked l = 8 * nodes_expr l.expr.now + 4

abbrev pub decreases-put_block : goal.decreases-put_block
decreases-put_block l = 8 * nodes_block l.block.now

abbrev pub decreases-put_braces : goal.decreases-put_braces
decreases-put_braces l = 8 * (nodes_stmts (stmts l.stmts.now) + nodes_maybeexpr (maybeexpr l.value.now)) + 4

abbrev pub decreases-put_value : goal.decreases-put_value
decreases-put_value l = 8 * nodes_maybeexpr (maybeexpr l.value.now)

abbrev pub decreases-put_stmt : goal.decreases-put_stmt
decreases-put_stmt l = 8 * nodes_stmt l.stmt.now

abbrev pub decreases-put_run : goal.decreases-put_run
decreases-put_run l = 8 * nodes_expr l.expr.now + 4

abbrev pub decreases-put_given : goal.decreases-put_given
decreases-put_given l = 8 * nodes_maybeexpr (maybeexpr l.value.now) + 4

abbrev pub decreases-put_parts : goal.decreases-put_parts
decreases-put_parts l = 8 * nodes_exprs (exprs l.parts.now) + 4

abbrev pub decreases-put_literal : goal.decreases-put_literal
decreases-put_literal l = 8 * nodes_inits (inits l.parts.now) + 4

abbrev pub decreases-put_exprs : goal.decreases-put_exprs
decreases-put_exprs l = 8 * nodes_exprs (exprs l.parts.now)

abbrev pub decreases-put_arms : goal.decreases-put_arms
decreases-put_arms l = 8 * nodes_arms (arms l.arms.now)

abbrev pub decreases-put_inits : goal.decreases-put_inits
decreases-put_inits l = 8 * nodes_inits (inits l.parts.now)

abbrev pub decreases-put_stmts : goal.decreases-put_stmts
decreases-put_stmts l = 8 * nodes_stmts (stmts l.stmts.now)

abbrev pub invariant-put_exprs-loop-part : goal.invariant-put_exprs-loop-part
invariant-put_exprs-loop-part l =
    string_bytes l.out ++ exprs_text (exprs (drop l.part-index l.parts)) ≡ string_bytes l.fn.out ++ exprs_text (exprs l.parts)

abbrev pub invariant-put_arms-loop-arm : goal.invariant-put_arms-loop-arm
invariant-put_arms-loop-arm l =
    string_bytes l.out ++ arms_text (arms (drop l.arm-index l.arms)) ≡ string_bytes l.fn.out ++ arms_text (arms l.arms)

abbrev pub invariant-put_inits-loop-part : goal.invariant-put_inits-loop-part
invariant-put_inits-loop-part l =
    string_bytes l.out ++ inits_text (inits (drop l.part-index l.parts)) ≡ string_bytes l.fn.out ++ inits_text (inits l.parts)

abbrev pub invariant-put_stmts-loop-stmt : goal.invariant-put_stmts-loop-stmt
invariant-put_stmts-loop-stmt l =
    string_bytes l.out ++ stmts_text (stmts (drop l.stmt-index l.stmts)) ≡ string_bytes l.fn.out ++ stmts_text (stmts l.stmts)
