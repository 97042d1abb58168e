-- The computation runs under a bind that is pending.
use Rattle.std.proofs.Common.{refl, ◌∙◌, arith}
use Rattle.pure_eval.specs.Unwinding.{calls_at, turn_answer}
use Rattle.pure_eval.proofs.Meanings.{unwind_more}
use Rattle.pure_eval.proofs.Weights.{stack_more}
use Rattle.pure_eval.proofs.turns.bind.Goals as goal

pub returns-clause-meaning : goal.returns-clause-meaning
returns-clause-meaning c =
    let defs = c.args.defs.now in
    let same = c.in_ok-ran.ensures (calls_at defs c.args.frame.rest.fuel) ∙ c.in_ok-call.ensures.meaning in
    let more = unwind_more defs c.args.stack.now c.args.frame (turn_answer defs c.in_ok-call.field-0) in
    rw (c.in_ok-push.ensures.ok, more, same) refl

pub returns-clause-cost : goal.returns-clause-cost
returns-clause-cost c =
    let defs = c.args.defs.now in
    let cost = c.in_ok-call.ensures.cost in
    let more = stack_more defs c.args.stack.now c.args.frame in
    rw (c.in_ok-push.ensures.ok, more) (omega arith)
