-- The values taken so far, and those that are left.
use Rattle.std.proofs.Common.{◌≡◌, ◌++◌, length, reverse}
use Rattle.pure_eval.proofs.arms.reversed.Given as goal

abbrev pub invariant-loop-value : goal.invariant-loop-value
invariant-loop-value l = reverse l.fn.values ≡ l.all ++ reverse l.left

abbrev pub decreases-loop-value : goal.decreases-loop-value
decreases-loop-value l = length l.left
