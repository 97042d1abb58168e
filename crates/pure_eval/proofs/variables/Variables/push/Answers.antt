-- Numbers still ascend with a greater one at the end.
use Rattle.std.proofs.Common.{◌≤◌, add-one, arith}
use Rattle.pure_eval.proofs.Lookups.{ascends_more}
use Rattle.pure_eval.proofs.variables.Variables.push.Goals as goal

pub invariant_of-self-then-self-number : goal.invariant_of-self-then-self-number
invariant_of-self-then-self-number c = λ h.
    let from = c.from-number.ensures in
    let le : c.self.inside.bound ≤ c.args.variable = omega arith in
    let m = ascends_more 0 c.self.inside.bound c.self.inside.entries c.args.variable c.args.value (c.self.invariant h) le in
    rw (c.in_ok-push.ensures.ok, add-one, from) m
