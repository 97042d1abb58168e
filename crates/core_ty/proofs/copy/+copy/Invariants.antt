use Rattle.std.proofs.Common.{◌≡◌, ◌+◌, ◌*◌, take}
use Rattle.core_ty.specs.Types.{tys, nodes_ty, nodes_tys}
use Rattle.core_ty.proofs.copy.+copy.Given as goal

abbrev pub decreases-copy_ty : goal.decreases-copy_ty
decreases-copy_ty l = 2 * nodes_ty l.ty.now

abbrev pub decreases-copy_boxed : goal.decreases-copy_boxed
decreases-copy_boxed l = 2 * nodes_ty l.inner.now + 1

abbrev pub decreases-copy_tys : goal.decreases-copy_tys
decreases-copy_tys l = 2 * nodes_tys (tys l.types.now)

abbrev pub invariant-copy_tys-loop-ty : goal.invariant-copy_tys-loop-ty
invariant-copy_tys-loop-ty l = l.all ≡ take l.ty-index l.types
