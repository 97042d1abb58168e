use Rattle.std.proofs.Common.{◌≡◌, ◌+◌, ◌*◌, map, take}
use Rattle.core_ty.specs.Types.{tys, nodes_ty, nodes_tys}
use Rattle.core_ty.specs.Substitution.{substitute}
use Rattle.core_ty.proofs.substitution.+substitution.Given as goal

abbrev pub decreases-subst : goal.decreases-subst
decreases-subst l = 2 * nodes_ty l.ty.now

abbrev pub decreases-subst_boxed : goal.decreases-subst_boxed
decreases-subst_boxed l = 2 * nodes_ty l.inner.now + 1

abbrev pub decreases-subst_all : goal.decreases-subst_all
decreases-subst_all l = 2 * nodes_tys (tys l.types.now)

abbrev pub invariant-subst_all-loop-ty : goal.invariant-subst_all-loop-ty
invariant-subst_all-loop-ty l = l.all ≡ map (substitute l.args) (take l.ty-index l.types)
