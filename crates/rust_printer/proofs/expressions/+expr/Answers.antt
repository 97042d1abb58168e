-- Each part is smaller than the whole.
use Rattle.std.proofs.Common.{arith}
use Rattle.rust_printer.proofs.Parts.{exprs_part, arms_part, inits_part, stmts_part}
use Rattle.rust_printer.proofs.expressions.+expr.Goals as goal

pub put_exprs-put_expr-requires : goal.put_exprs-put_expr-requires
put_exprs-put_expr-requires t c =
    let h = exprs_part c.args.parts.now c.loop-part.part-index c.part-item.result (omega arith) c.part-item.is in (omega (arith, h), tt)

pub put_arms-put_leading-requires : goal.put_arms-put_leading-requires
put_arms-put_leading-requires t c =
    let h = arms_part c.args.arms.now c.loop-arm.arm-index c.arm-item.result (omega arith) c.arm-item.is in (omega (arith, h), tt)

pub put_inits-put_expr-requires : goal.put_inits-put_expr-requires
put_inits-put_expr-requires t c =
    let h = inits_part c.args.parts.now c.loop-part.part-index c.part-item.result (omega arith) c.part-item.is in (omega (arith, h), tt)

pub put_stmts-put_stmt-requires : goal.put_stmts-put_stmt-requires
put_stmts-put_stmt-requires t c =
    let h = stmts_part c.args.stmts.now c.loop-stmt.stmt-index c.stmt-item.result (omega arith) c.stmt-item.is in (omega (arith, h), tt)
