use Rattle.std.proofs.Common.{◌≡◌, length}
use Rattle.core_ty.specs.Marks as spec
use Rattle.core_ty.proofs.clear.falling.Given as goal

abbrev pub invariant-loop-decl : goal.invariant-loop-decl
invariant-loop-decl l = (length l.marks ≡ length l.decls) × spec.IsClear l.decls l.marks
