use Rattle.std.proofs.Common.{ℕ, ◌<◌}
use Rattle.core_ty.specs.Marks as spec
use Rattle.core_ty.proofs.marks.next_unmarked.Given as goal

abbrev pub invariant-loop-decl : goal.invariant-loop-decl
invariant-loop-decl l = (d : ℕ) → d < l.decl → spec.IsComplete l.decls l.rows d
