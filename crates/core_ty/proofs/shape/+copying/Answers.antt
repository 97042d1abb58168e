use Rattle.std.proofs.Common.{arith}
use Rattle.core_ty.proofs.Items.{item}
use Rattle.core_ty.proofs.shape.+copying.Goals as goal

pub all_copy-is_copy-requires : goal.all_copy-is_copy-requires
all_copy-is_copy-requires t c =
    let h = item c.args.parts.now c.loop-part.part-index c.part-item.result (omega arith) c.part-item.is in
    (omega (arith, h), tt)
