-- The newest bind takes an answer that is Ok; any other is the answer of all.
use Rattle.std.proofs.Common.{refl, arith}
use Rattle.pure_eval.proofs.Meanings.{unwind_more, unwind_failed}
use Rattle.pure_eval.proofs.Weights.{stack_more}
use Rattle.pure_eval.proofs.frames.resume.Goals as goal

pub returns-in_ok-take_value-in-Some-clause-meaning :
    goal.returns-in_ok-take_value-in-Some-clause-meaning
returns-in_ok-take_value-in-Some-clause-meaning c = λ defs.
    let more = unwind_more defs c.pop.new.self c.in-Some.frame c.args.answer in
    rw (c.in-Some.ensures, more, c.in-Ok.is, c.in_ok-take_value-in-Some.ensures) refl

pub returns-in_ok-take_value-in-Some-clause-cost :
    goal.returns-in_ok-take_value-in-Some-clause-cost
returns-in_ok-take_value-in-Some-clause-cost c = λ defs.
    let more = stack_more defs c.pop.new.self c.in-Some.frame in
    rw (c.in-Some.ensures, more, c.in_ok-take_value-in-Some.ensures) (omega arith)

pub returns-in_default : goal.returns-in_default
returns-in_default c = record {
  meaning = λ defs. unwind_failed defs c.args.stack.now c.args.answer c.in_default.not-Ok;
  cost = λ defs. omega arith;
}
