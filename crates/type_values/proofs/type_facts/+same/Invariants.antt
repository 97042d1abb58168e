use Rattle.std.proofs.Common.{◌*◌}
use Rattle.core_ty.specs.Types.{tys, nodes_ty, nodes_tys}
use Rattle.type_values.proofs.type_facts.+same.Given as goal

abbrev pub decreases-same : goal.decreases-same
decreases-same l = 2 * nodes_ty l.a.now

abbrev pub decreases-same_all : goal.decreases-same_all
decreases-same_all l = 2 * nodes_tys (tys l.a.now)
