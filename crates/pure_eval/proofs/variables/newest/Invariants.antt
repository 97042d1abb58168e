-- The variable's value stands among those that are left.
use Rattle.std.proofs.Common.{◌≡◌, ◌≤◌, length, take}
use Rattle.text_meaning.specs.Environment.{lookup}
use Rattle.pure_eval.proofs.variables.newest.Given as goal

abbrev pub invariant-loop-left : goal.invariant-loop-left
invariant-loop-left l = record {
  within : l.left ≤ length l.entries;
  same : lookup l.entries l.variable ≡ lookup (take l.left l.entries) l.variable;
}

abbrev pub decreases-loop-left : goal.decreases-loop-left
decreases-loop-left l = l.left
