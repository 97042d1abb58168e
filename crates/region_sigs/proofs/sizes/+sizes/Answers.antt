use Rattle.std.proofs.Common.{arith}
use Rattle.region_sigs.proofs.Lists.{type_item}
use Rattle.region_sigs.proofs.sizes.+sizes.Goals as goal

pub left_after_all-left_after-requires : goal.left_after_all-left_after-requires
left_after_all-left_after-requires t c =
    let h = type_item c.args.types.now c.loop-ty.ty-index c.ty-item.result (omega arith) c.ty-item.is in
    (omega (arith, h), tt)
