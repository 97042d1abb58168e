use Rattle.std.proofs.Common.{◌*◌}
use Rattle.core_ty.specs.Types.{tys, nodes_ty, nodes_tys}
use Rattle.type_calls.proofs.finds.+known.Given as goal

abbrev pub decreases-is_known : goal.decreases-is_known
decreases-is_known l = 2 * nodes_ty l.ty.now

abbrev pub decreases-are_known : goal.decreases-are_known
decreases-are_known l = 2 * nodes_tys (tys l.types.now)
