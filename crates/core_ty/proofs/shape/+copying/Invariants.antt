use Rattle.std.proofs.Common.{◌≡◌, ◌*◌, drop}
use Rattle.core_ty.specs.Types.{tys, nodes_ty, nodes_tys}
use Rattle.core_ty.specs.Shape as spec
use Rattle.core_ty.proofs.shape.+copying.Given as goal

abbrev pub decreases-is_copy : goal.decreases-is_copy
decreases-is_copy l = 2 * nodes_ty l.ty.now

abbrev pub decreases-all_copy : goal.decreases-all_copy
decreases-all_copy l = 2 * nodes_tys (tys l.parts.now)

abbrev pub invariant-all_copy-loop-part : goal.invariant-all_copy-loop-part
invariant-all_copy-loop-part l = spec.all_copy (tys (drop l.part-index l.parts)) ≡ spec.all_copy (tys l.parts)
