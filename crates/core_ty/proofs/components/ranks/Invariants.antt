use Rattle.std.proofs.Common.{length}
use Rattle.core_ty.proofs.components.ranks.Given as goal

abbrev pub decreases-loop-decl-2 : goal.decreases-loop-decl-2
decreases-loop-decl-2 l = length l.order
