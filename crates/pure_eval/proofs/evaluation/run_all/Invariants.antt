-- All pending work comes to the answer, and costs less each turn.
use Rattle.std.proofs.Common.{◌≡◌, ◌+◌}
use Rattle.pure_eval.specs.Unwinding.{unwind, state_answer}
use Rattle.pure_eval.specs.Costs.{stack_cost, state_cost}
use Rattle.pure_eval.proofs.evaluation.run_all.Given as goal

abbrev pub invariant-loop-stack : goal.invariant-loop-stack
invariant-loop-stack l = unwind l.defs l.stack (state_answer l.defs l.state) ≡ state_answer l.defs l.fn.state

abbrev pub decreases-loop-stack : goal.decreases-loop-stack
decreases-loop-stack l = stack_cost l.defs l.stack + state_cost l.defs l.state
