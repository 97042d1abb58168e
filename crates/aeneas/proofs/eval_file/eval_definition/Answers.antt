-- The reply is that of the definition on what the words write.
use Rattle.std.proofs.Common.{◌∙◌, ap, subst, map}
use Rattle.std.proofs.lemmas.Result.{IfOk-weaker}
use Rattle.std.specs.String.{string_bytes}
use Rattle.text_meaning.specs.Evaluate.{evaluate}
use Rattle.aeneas.specs.Eval.{AnswerReply, ArgFaultReply, EvaluationReply}
use Rattle.aeneas.proofs.Evaluations.{item_there, refused, answered}
use Rattle.aeneas.proofs.eval_file.eval_definition.Goals as goal

pub returns-in_ok-eval-in-Ok : goal.returns-in_ok-eval-in-Ok
returns-in_ok-eval-in-Ok c =
    let defs = c.args.defs.now in
    let found = item_there defs.defs c.args.def.0 c.requires.known in
    let pieces = map string_bytes c.args.types.now in
    let words = map string_bytes c.args.values.now in
    let answer = c.in_ok-eval-in-Ok.ensures.answer ∙ ap (λ values. evaluate defs c.args.def.0 values c.args.fuel) c.as_slice.ensures in
    IfOk-weaker c.answer_reply.result (λ r. AnswerReply defs c.in_ok-eval-in-Ok.field-0 r.status r.text) (λ r. EvaluationReply defs c.args.def.0 pieces words c.args.fuel r.status r.text)
    (λ r h. answered defs c.args.def.0 found.0 found.1 pieces words c.args.fuel r.status r.text c.in-Ok.args (c.in-Ok.ensures.reading found.0 found.1) (subst (λ a. AnswerReply defs a r.status r.text) answer h))
    c.answer_reply.ensures

pub returns-in-Err : goal.returns-in-Err
returns-in-Err c =
    let defs = c.args.defs.now in
    let found = item_there defs.defs c.args.def.0 c.requires.known in
    let pieces = map string_bytes c.args.types.now in
    let words = map string_bytes c.args.values.now in
    IfOk-weaker c.arg_fault_reply.result (λ r. ArgFaultReply c.in-Err.fault r.status r.text) (λ r. EvaluationReply defs c.args.def.0 pieces words c.args.fuel r.status r.text)
    (λ r h. refused defs c.args.def.0 found.0 found.1 pieces words c.args.fuel r.status r.text c.in-Err.fault (c.in-Err.ensures.reading found.0 found.1) h)
    c.arg_fault_reply.ensures
