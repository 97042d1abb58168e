use Rattle.std.proofs.Common.{arith}
use Rattle.core_ty.proofs.Items.{item}
use Rattle.core_ty.proofs.substitution.+substitution.Goals as goal

pub subst_all-subst-requires : goal.subst_all-subst-requires
subst_all-subst-requires t c =
    let h = item c.args.types.now c.loop-ty.ty-index c.ty-item.result (omega arith) c.ty-item.is in
    (omega (arith, h), tt)
