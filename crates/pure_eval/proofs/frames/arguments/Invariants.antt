-- The variables so far, and the values that are left.
use Rattle.std.proofs.Common.{◌≡◌, ◌++◌, length, reverse}
use Rattle.text_meaning.specs.Environment.{numbered}
use Rattle.pure_eval.proofs.frames.arguments.Given as goal

abbrev pub invariant-loop-value : goal.invariant-loop-value
invariant-loop-value l = l.variables ++ numbered l.place (reverse l.left) ≡ numbered 0 l.fn.values

abbrev pub decreases-loop-value : goal.decreases-loop-value
decreases-loop-value l = length l.left
