use Rattle.std.proofs.Common.{arith}
use Rattle.rust_sums.proofs.Sizes.{exprs_item}
use Rattle.rust_sums.proofs.expressions.+expression.Goals as goal

pub arguments-expression-requires : goal.arguments-expression-requires
arguments-expression-requires t c =
    let h = exprs_item c.args.items.now c.loop-item.item-index c.item-item.result (omega arith) c.item-item.is in
    (omega (arith, h), tt)
