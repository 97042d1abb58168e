use Rattle.std.proofs.Common.{◌+◌, ◌*◌}
use Rattle.core_ty.specs.Types.{nodes_ty}
use Rattle.type_calls.proofs.reaching.+reached.Given as goal

abbrev pub decreases-reached : goal.decreases-reached
decreases-reached l = 3 * nodes_ty l.ty.now + 2

abbrev pub decreases-else_inside : goal.decreases-else_inside
decreases-else_inside l = 3 * nodes_ty l.ty.now + 1

abbrev pub decreases-reached_inside : goal.decreases-reached_inside
decreases-reached_inside l = 3 * nodes_ty l.ty.now
