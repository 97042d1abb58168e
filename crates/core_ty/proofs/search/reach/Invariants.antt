use Rattle.core_ty.specs.Marks as spec
use Rattle.core_ty.proofs.search.reach.Given as goal

abbrev pub invariant-loop-next : goal.invariant-loop-next
invariant-loop-next l = spec.IsSearch l.decls l.rows l.start l.seen l.done

abbrev pub decreases-loop-next : goal.decreases-loop-next
decreases-loop-next l = spec.unset l.done
