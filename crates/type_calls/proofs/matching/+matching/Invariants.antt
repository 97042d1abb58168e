use Rattle.std.proofs.Common.{◌*◌}
use Rattle.core_ty.specs.Types.{tys, nodes_ty, nodes_tys}
use Rattle.type_calls.proofs.matching.+matching.Given as goal

abbrev pub decreases-matched : goal.decreases-matched
decreases-matched l = 2 * nodes_ty l.pattern.now

abbrev pub decreases-matched_all : goal.decreases-matched_all
decreases-matched_all l = 2 * nodes_tys (tys l.patterns.now)
