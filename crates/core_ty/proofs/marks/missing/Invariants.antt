use Rattle.std.proofs.Common.{take}
use Rattle.std.specs.List.{All}
use Rattle.core_ty.specs.Marks as spec
use Rattle.core_ty.proofs.marks.missing.Given as goal

abbrev pub invariant-loop-part : goal.invariant-loop-part
invariant-loop-part l = All (spec.IsMarked l.row) (take l.part-index l.parts)
