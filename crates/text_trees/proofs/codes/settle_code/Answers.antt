-- Code waits while the code in it is begun, and takes it then.
use Rattle.std.proofs.Common.{◌*◌, ap}
use Rattle.raw_ast.specs.Code.{nodes_rawcode}
use Rattle.text_trees.specs.Codes.{code_told, frame_told, step_told, frame_cost, step_cost}
use Rattle.text_trees.proofs.Turning.{passes, opened, opened_fault, closed, closed_fault, opened_cost, closed_cost}
use Rattle.text_trees.proofs.codes.settle_code.Goals as goal

pub returns-in_err-step-in-Within : goal.returns-in_err-step-in-Within
returns-in_err-step-in-Within c =
    let h = c.args.tables.now in
    passes (step_told h) (code_told h c.in-Within.part.now) (code_told h c.args.raw.now) c.from_residual-in_err-step-in-Within.result c.in_err-step-in-Within.field-0.0
    c.in_err-step-in-Within.ensures.meaning c.from_residual-in_err-step-in-Within.ensures.1
    (λ place. opened_fault (frame_told h) c.loop-step.stack c.in-Within.frame (code_told h c.in-Within.part.now) (step_told h c.loop-step.step) (code_told h c.args.raw.now) place
    (ap (step_told h) c.in-Within.is) c.loop-step.invariant)

pub loop-step-preserved-in-Within : goal.loop-step-preserved-in-Within
loop-step-preserved-in-Within c =
    let h = c.args.tables.now in
    opened (frame_told h) c.loop-step.stack c.push.new.self c.in-Within.frame (code_told h c.in-Within.part.now) (step_told h c.loop-step.step) (step_told h c.in_ok-step-in-Within.step) (code_told h c.args.raw.now)
    c.in_ok-push-in-Within.ensures.ok (ap (step_told h) c.in-Within.is) c.in_ok-step-in-Within.ensures.meaning c.loop-step.invariant

pub loop-step-smaller-in-Within : goal.loop-step-smaller-in-Within
loop-step-smaller-in-Within c =
    opened_cost frame_cost c.loop-step.stack c.push.new.self c.in-Within.frame (2 * nodes_rawcode c.in-Within.part.now) (step_cost c.loop-step.step) (step_cost c.in_ok-step-in-Within.step)
    c.in_ok-push-in-Within.ensures.ok (ap step_cost c.in-Within.is) c.in_ok-step-in-Within.ensures.cost

pub loop-step-preserved : goal.loop-step-preserved
loop-step-preserved c =
    let h = c.args.tables.now in
    closed (frame_told h) c.loop-step.stack c.pop.new.self c.in-Some.frame c.in-Whole.code (step_told h c.loop-step.step) (step_told h c.in_ok-step-in-Some.step) (code_told h c.args.raw.now)
    c.in-Some.ensures (ap (step_told h) c.in-Whole.is) c.in_ok-step-in-Some.ensures.meaning c.loop-step.invariant

pub loop-step-smaller : goal.loop-step-smaller
loop-step-smaller c =
    closed_cost frame_cost c.loop-step.stack c.pop.new.self c.in-Some.frame (step_cost c.loop-step.step) (step_cost c.in_ok-step-in-Some.step)
    c.in-Some.ensures c.in_ok-step-in-Some.ensures.cost

pub returns-in_err-step-in-Some : goal.returns-in_err-step-in-Some
returns-in_err-step-in-Some c =
    let h = c.args.tables.now in
    passes (step_told h) (frame_told h c.in-Some.frame c.in-Whole.code) (code_told h c.args.raw.now) c.from_residual-in_err-step-in-Some.result c.in_err-step-in-Some.field-0.0
    c.in_err-step-in-Some.ensures.meaning c.from_residual-in_err-step-in-Some.ensures.1
    (λ place. closed_fault (frame_told h) c.loop-step.stack c.pop.new.self c.in-Some.frame c.in-Whole.code (step_told h c.loop-step.step) (code_told h c.args.raw.now) place
    c.in-Some.ensures (ap (step_told h) c.in-Whole.is) c.loop-step.invariant)
