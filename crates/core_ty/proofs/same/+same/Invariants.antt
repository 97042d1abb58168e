use Rattle.std.proofs.Common.{◌≡◌, ◌*◌, take, length}
use Rattle.core_ty.specs.Types.{tys, nodes_ty, nodes_tys}
use Rattle.core_ty.proofs.same.+same.Given as goal

abbrev pub decreases-same_ty : goal.decreases-same_ty
decreases-same_ty l = 2 * nodes_ty l.a.now

abbrev pub decreases-same_tys : goal.decreases-same_tys
decreases-same_tys l = 2 * nodes_tys (tys l.a.now)

abbrev pub invariant-same_tys-loop-i : goal.invariant-same_tys-loop-i
invariant-same_tys-loop-i l = (length l.a ≡ length l.b) × (take l.i l.a ≡ take l.i l.b)
