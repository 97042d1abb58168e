-- The match runs under a bind that is pending.
use Rattle.std.proofs.Common.{refl, arith}
use Rattle.pure_eval.specs.Unwinding.{turn_answer}
use Rattle.pure_eval.proofs.Meanings.{unwind_more}
use Rattle.pure_eval.proofs.Weights.{stack_more}
use Rattle.pure_eval.proofs.turns.bind_select.Goals as goal

pub returns-clause-meaning : goal.returns-clause-meaning
returns-clause-meaning c = λ defs.
    let same = rw c.in_ok-variables.ensures at (c.in_ok-turn.ensures.meaning defs) in
    let more = unwind_more defs c.args.stack.now c.args.frame (turn_answer defs c.in_ok-turn.turn) in
    rw (c.in_ok-push.ensures.ok, more, same) refl

pub returns-clause-cost : goal.returns-clause-cost
returns-clause-cost c = λ defs.
    let cost = c.in_ok-turn.ensures.cost defs in
    let more = stack_more defs c.args.stack.now c.args.frame in
    rw (c.in_ok-push.ensures.ok, more) (omega arith)
