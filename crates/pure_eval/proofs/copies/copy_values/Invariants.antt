-- All lists come to the copy that is asked for, and less is left each turn.
use Rattle.std.proofs.Common.{◌≡◌, ◌+◌}
use Rattle.pure_eval.specs.Copying.{finished, rebuilt, list_cost, stack_cost}
use Rattle.pure_eval.proofs.copies.copy_values.Given as goal

abbrev pub invariant-loop-copied : goal.invariant-loop-copied
invariant-loop-copied l = rebuilt l.stack (finished l.list) ≡ l.values

abbrev pub decreases-loop-copied : goal.decreases-loop-copied
decreases-loop-copied l = stack_cost l.stack + list_cost l.list
