use Rattle.std.proofs.Common.{◌≡◌, ◌*◌, ◌++◌, drop}
use Rattle.core_ty.specs.Types.{tys, nodes_ty, nodes_tys}
use Rattle.core_ty.specs.Positions as spec
use Rattle.core_ty.proofs.places.+positions.Given as goal

abbrev pub decreases-add_positions : goal.decreases-add_positions
decreases-add_positions l = 2 * nodes_ty l.ty.now

abbrev pub decreases-add_all : goal.decreases-add_all
decreases-add_all l = 2 * nodes_tys (tys l.parts.now)

abbrev pub invariant-add_all-loop-part : goal.invariant-add_all-loop-part
invariant-add_all-loop-part l =
    l.found ++ spec.positions_from l.path l.place (tys (drop l.part-index l.parts)) ≡ l.initial.found ++ spec.positions_from l.path 0 (tys l.parts)
