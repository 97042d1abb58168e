use Rattle.std.proofs.Common.{take}
use Rattle.std.specs.List.{All}
use Rattle.core_ty.specs.Ranks as spec
use Rattle.core_ty.proofs.clear.all_within.Given as goal

abbrev pub invariant-loop-part : goal.invariant-loop-part
invariant-loop-part l = All (spec.IsWithin l.ranks l.top) (take l.part-index l.parts)
