use Rattle.std.proofs.Common.{◌≡◌, ◌+◌, ◌*◌, drop}
use Rattle.core_ty.specs.Types.{tys, nodes_ty, nodes_tys}
use Rattle.type_rules.specs.TypeFacts.{size_all}
use Rattle.region_sigs.proofs.sizes.+sizes.Given as goal

abbrev pub decreases-left_after : goal.decreases-left_after
decreases-left_after l = 2 * nodes_ty l.ty.now

abbrev pub decreases-left_after_all : goal.decreases-left_after_all
decreases-left_after_all l = 2 * nodes_tys (tys l.types.now)

abbrev pub invariant-left_after_all-loop-ty : goal.invariant-left_after_all-loop-ty
invariant-left_after_all-loop-ty l = l.fn.count + size_all (tys (drop l.ty-index l.types)) ≡ l.rest + size_all (tys l.types)
