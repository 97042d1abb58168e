use Rattle.std.proofs.Common.{arith}
use Rattle.core_ty.proofs.Items.{item}
use Rattle.core_ty.proofs.copy.+copy.Goals as goal

pub copy_tys-copy_ty-requires : goal.copy_tys-copy_ty-requires
copy_tys-copy_ty-requires t c =
    let h = item c.args.types.now c.loop-ty.ty-index c.ty-item.result (omega arith) c.ty-item.is in
    (omega (arith, h), tt)
