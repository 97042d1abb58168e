use Rattle.std.proofs.Common.{arith}
use Rattle.core_ty.proofs.Items.{item}
use Rattle.core_ty.proofs.same.+same.Goals as goal

pub same_tys-same_ty-requires : goal.same_tys-same_ty-requires
same_tys-same_ty-requires t c =
    let h = item c.args.a.now c.loop-i.i c.index-a-i.result (omega arith) c.index-a-i.is in
    (omega (arith, h), tt)
