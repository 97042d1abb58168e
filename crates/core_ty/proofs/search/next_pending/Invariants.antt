use Rattle.std.proofs.Common.{length}
use Rattle.core_ty.proofs.search.next_pending.Given as goal

abbrev pub decreases-loop-place : goal.decreases-loop-place
decreases-loop-place l = length l.hints
