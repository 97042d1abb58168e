use Rattle.std.proofs.Common.{arith}
use Rattle.core_ty.proofs.Items.{item}
use Rattle.core_ty.proofs.places.+positions.Goals as goal

pub add_all-add_positions-requires : goal.add_all-add_positions-requires
add_all-add_positions-requires t c =
    let h = item c.args.parts.now c.loop-part.part-index c.part-item.result (omega arith) c.part-item.is in
    (omega (arith, h), tt)
