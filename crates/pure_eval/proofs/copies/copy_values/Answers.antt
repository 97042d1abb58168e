-- A list waits while the parts of its next value are copied, and then takes that value.
use Rattle.std.proofs.Common.{◌++◌}
use Rattle.pure_eval.proofs.Copied.{opened_meaning, opened_cost, closed_meaning, closed_cost}
use Rattle.pure_eval.proofs.copies.copy_values.Goals as goal

pub loop-copied-smaller-in-Some : goal.loop-copied-smaller-in-Some
loop-copied-smaller-in-Some c =
    opened_cost c.loop-copied.stack c.push.new.self c.in-Some.field-0 c.in_ok-owner.field-0 c.copy_plain.new.copied c.loop-copied.list
    c.in-Some.is c.in_ok-push-in-Some.ensures.ok c.in_ok-owner.ensures.cost

pub loop-copied-preserved-in-Some : goal.loop-copied-preserved-in-Some
loop-copied-preserved-in-Some c =
    let list = c.loop-copied.list in
    opened_meaning c.loop-copied.stack c.push.new.self c.in-Some.field-0 c.in_ok-owner.field-0 c.copy_plain.new.copied c.new-in-Some.result
    (list.copied ++ list.left.now) c.args.values.now
    c.in-Some.is c.in_ok-push-in-Some.ensures.ok c.new-in-Some.ensures c.in_ok-owner.ensures.meaning c.loop-copied.invariant

pub loop-copied-smaller : goal.loop-copied-smaller
loop-copied-smaller c =
    closed_cost c.loop-copied.stack c.pop.new.self c.in-Some-pop.waiting c.loop-copied.list c.in_ok-list-in-Some-pop.list c.in_ok-owner.field-0
    c.in-None.is c.in-Some-pop.ensures c.in_ok-list-in-Some-pop.ensures.cost c.in_ok-owner.ensures.cost

pub loop-copied-preserved : goal.loop-copied-preserved
loop-copied-preserved c =
    let list = c.loop-copied.list in
    closed_meaning c.loop-copied.stack c.pop.new.self c.in-Some-pop.waiting c.in_ok-list-in-Some-pop.list c.in_ok-owner.field-0 c.copy_plain.new.copied
    (list.copied ++ list.left.now) c.args.values.now
    c.in-None.is c.in-Some-pop.ensures c.in_ok-list-in-Some-pop.ensures.meaning c.in_ok-owner.ensures.meaning c.loop-copied.invariant
