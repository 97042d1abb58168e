-- A part waits while the part in it is begun, and takes its type then.
use Rattle.std.proofs.Common.{◌*◌, ap}
use Rattle.raw_ast.specs.Types.{nodes_rawtype}
use Rattle.text_trees.specs.Types.{type_told, frame_told, step_told, frame_cost, step_cost}
use Rattle.text_trees.proofs.Turning.{passes, opened, opened_fault, closed, opened_cost, closed_cost}
use Rattle.text_trees.proofs.types.settle_type.Goals as goal

pub returns-in_err-step-in-Within : goal.returns-in_err-step-in-Within
returns-in_err-step-in-Within c =
    let h = c.args.tables.now in
    let ps = c.args.parameters.now in
    passes (step_told h ps) (type_told h ps c.in-Within.part.now) (type_told h ps c.args.raw.now) c.from_residual-in_err-step-in-Within.result c.in_err-step-in-Within.field-0.0
    c.in_err-step-in-Within.ensures.meaning c.from_residual-in_err-step-in-Within.ensures.1
    (λ place. opened_fault (frame_told h ps) c.loop-step.stack c.in-Within.frame (type_told h ps c.in-Within.part.now) (step_told h ps c.loop-step.step) (type_told h ps c.args.raw.now) place
    (ap (step_told h ps) c.in-Within.is) c.loop-step.invariant)

pub loop-step-preserved-in-Within : goal.loop-step-preserved-in-Within
loop-step-preserved-in-Within c =
    let h = c.args.tables.now in
    let ps = c.args.parameters.now in
    opened (frame_told h ps) c.loop-step.stack c.push.new.self c.in-Within.frame (type_told h ps c.in-Within.part.now) (step_told h ps c.loop-step.step) (step_told h ps c.in_ok-step-in-Within.step) (type_told h ps c.args.raw.now)
    c.in_ok-push-in-Within.ensures.ok (ap (step_told h ps) c.in-Within.is) c.in_ok-step-in-Within.ensures.meaning c.loop-step.invariant

pub loop-step-smaller-in-Within : goal.loop-step-smaller-in-Within
loop-step-smaller-in-Within c =
    opened_cost frame_cost c.loop-step.stack c.push.new.self c.in-Within.frame (3 * nodes_rawtype c.in-Within.part.now) (step_cost c.loop-step.step) (step_cost c.in_ok-step-in-Within.step)
    c.in_ok-push-in-Within.ensures.ok (ap step_cost c.in-Within.is) c.in_ok-step-in-Within.ensures.cost

pub loop-step-preserved : goal.loop-step-preserved
loop-step-preserved c =
    let h = c.args.tables.now in
    let ps = c.args.parameters.now in
    closed (frame_told h ps) c.loop-step.stack c.pop.new.self c.in-Some.frame c.in-Whole.ty (step_told h ps c.loop-step.step) (step_told h ps c.in_ok-step-in-Some.step) (type_told h ps c.args.raw.now)
    c.in-Some.ensures (ap (step_told h ps) c.in-Whole.is) (c.in_ok-step-in-Some.ensures.meaning h ps) c.loop-step.invariant

pub loop-step-smaller : goal.loop-step-smaller
loop-step-smaller c =
    closed_cost frame_cost c.loop-step.stack c.pop.new.self c.in-Some.frame (step_cost c.loop-step.step) (step_cost c.in_ok-step-in-Some.step)
    c.in-Some.ensures c.in_ok-step-in-Some.ensures.cost
