-- The variables copied so far.
use Rattle.std.proofs.Common.{◌≡◌, take}
use Rattle.pure_eval.proofs.variables.Variables.try_clone.Given as goal

abbrev pub invariant-loop-entry : goal.invariant-loop-entry
invariant-loop-entry l = l.entries ≡ take l.entry-index l.entry-items
