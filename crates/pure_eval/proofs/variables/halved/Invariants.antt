-- Neither below the lower end nor from the upper end on stands the variable.
use Rattle.std.proofs.Common.{◌≡◌, ◌-◌, ◌≤◌, length, take, drop}
use Rattle.std.specs.Prelude.{None}
use Rattle.text_meaning.specs.Environment.{lookup}
use Rattle.pure_eval.proofs.variables.halved.Given as goal

abbrev pub invariant-loop-low : goal.invariant-loop-low
invariant-loop-low l = record {
  ordered : l.low ≤ l.high;
  within : l.high ≤ length l.entries;
  below : lookup (take l.low l.entries) l.variable ≡ None;
  above : lookup (drop l.high l.entries) l.variable ≡ None;
}

abbrev pub decreases-loop-low : goal.decreases-loop-low
decreases-loop-low l = l.high - l.low
