use Rattle.core_ty.specs.Marks as spec
use Rattle.core_ty.proofs.marks.marks.Given as goal

abbrev pub invariant-loop-rows : goal.invariant-loop-rows
invariant-loop-rows l = spec.HasShape l.decls l.rows × spec.AreSound l.decls l.rows

abbrev pub decreases-loop-rows : goal.decreases-loop-rows
decreases-loop-rows l = spec.unmarked l.rows
