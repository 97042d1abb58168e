use Rattle.std.proofs.Common.{◌*◌}
use Rattle.core_ty.specs.Types.{tys, nodes_ty, nodes_tys}
use Rattle.type_values.proofs.type_facts.+references.Given as goal

abbrev pub decreases-has_reference : goal.decreases-has_reference
decreases-has_reference l = 2 * nodes_ty l.ty.now

abbrev pub decreases-any_reference : goal.decreases-any_reference
decreases-any_reference l = 2 * nodes_tys (tys l.all.now)
