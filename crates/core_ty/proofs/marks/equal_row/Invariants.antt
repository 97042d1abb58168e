use Rattle.std.proofs.Common.{◌≡◌, replicate}
use Rattle.core_ty.proofs.marks.equal_row.Given as goal

abbrev pub invariant-loop-place : goal.invariant-loop-place
invariant-loop-place l = l.row ≡ replicate l._place l.mark
