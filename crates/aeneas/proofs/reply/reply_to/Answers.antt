-- The reply to the words is that of the command that they are.
use Rattle.std.proofs.Common.{map, subst}
use Rattle.std.specs.String.{string_bytes}
use Rattle.std.proofs.lemmas.Result.{IfOk-weaker}
use Rattle.aeneas.specs.Eval.{EvalReply}
use Rattle.aeneas.specs.Parsed.{IsCommand}
use Rattle.aeneas.specs.declared.refusal.Refusal.TheVariants as R
use Rattle.aeneas.specs.Refusals.{IsRefusal}
use Rattle.aeneas.specs.Reply.{IsReply, CheckReply, TranslateReply}
use Rattle.aeneas.specs.Run.{RunReply}
use Rattle.aeneas.specs.Seen.{seen}
use Rattle.aeneas.proofs.Evaluations.{short_strings}
use Rattle.aeneas.proofs.Headlines.{reads_nothing}
use Rattle.aeneas.proofs.Replying.{misused, check_reply, translate_reply, run_reply, eval_reply, name_short, values_short}
use Rattle.aeneas.proofs.reply.reply_to.Goals as goal

pub eval_file-requires-clause-short : goal.eval_file-requires-clause-short
eval_file-requires-clause-short g c =
    name_short (map string_bytes c.args.words.now) (seen g.F.Files.told g.F.Files.handed g.F.Files.faults c.args.files.now c.args.files.now) c.in-Some-Eval.file.now c.in-Some-Eval.name.now c.in-Some-Eval.fuel (map string_bytes c.in-Some-Eval.values.now) 0 c.in-Some-Eval.name.now (subst (IsCommand (map string_bytes c.args.words.now)) c.in-Some-Eval.field-0-is c.in-Some-Eval.ensures)

pub eval_file-requires-clause-short_values : goal.eval_file-requires-clause-short_values
eval_file-requires-clause-short_values g c =
    short_strings c.in-Some-Eval.values.now
    (values_short (map string_bytes c.args.words.now) (seen g.F.Files.told g.F.Files.handed g.F.Files.faults c.args.files.now c.args.files.now) c.in-Some-Eval.file.now c.in-Some-Eval.name.now c.in-Some-Eval.fuel (map string_bytes c.in-Some-Eval.values.now) 0 c.in-Some-Eval.name.now (subst (IsCommand (map string_bytes c.args.words.now)) c.in-Some-Eval.field-0-is c.in-Some-Eval.ensures))

pub returns-in-Some-Run-clause-reply : goal.returns-in-Some-Run-clause-reply
returns-in-Some-Run-clause-reply g c =
    let words = map string_bytes c.args.words.now in
    let s = seen g.F.Files.told g.F.Files.handed g.F.Files.faults c.args.files.now c.run_file.new.files in
    let values = map string_bytes c.in-Some-Run.values.now in
    IfOk-weaker c.run_file.result (λ r. RunReply s c.in-Some-Run.file.now c.in-Some-Run.name.now values c.in-Some-Run.fuel r.status r.text) (λ r. IsReply words s r.status r.text)
    (λ r h. run_reply words s c.in-Some-Run.file.now c.in-Some-Run.name.now c.in-Some-Run.fuel values r.status r.text (subst (IsCommand (map string_bytes c.args.words.now)) c.in-Some-Run.field-0-is c.in-Some-Run.ensures) h) c.run_file.ensures.reply

pub returns-in-Some-Eval-clause-reply : goal.returns-in-Some-Eval-clause-reply
returns-in-Some-Eval-clause-reply g c =
    let words = map string_bytes c.args.words.now in
    let s = seen g.F.Files.told g.F.Files.handed g.F.Files.faults c.args.files.now c.eval_file.new.files in
    let values = map string_bytes c.in-Some-Eval.values.now in
    IfOk-weaker c.eval_file.result (λ r. EvalReply s c.in-Some-Eval.file.now c.in-Some-Eval.name.now values c.in-Some-Eval.fuel r.status r.text) (λ r. IsReply words s r.status r.text)
    (λ r h. eval_reply words s c.in-Some-Eval.file.now c.in-Some-Eval.name.now c.in-Some-Eval.fuel values r.status r.text (subst (IsCommand (map string_bytes c.args.words.now)) c.in-Some-Eval.field-0-is c.in-Some-Eval.ensures) h) c.eval_file.ensures.reply

pub returns-in-Some-Check-clause-reply : goal.returns-in-Some-Check-clause-reply
returns-in-Some-Check-clause-reply g c =
    let words = map string_bytes c.args.words.now in
    let s = seen g.F.Files.told g.F.Files.handed g.F.Files.faults c.args.files.now c.check_file.new.files in
    IfOk-weaker c.check_file.result (λ r. CheckReply s c.in-Some-Check.file.now r.status r.text) (λ r. IsReply words s r.status r.text)
    (λ r h. check_reply words s c.in-Some-Check.file.now r.status r.text (subst (IsCommand words) c.in-Some-Check.field-0-is c.in-Some-Check.ensures) h) c.check_file.ensures.reply

pub returns-in-Some-Translate-clause-reply : goal.returns-in-Some-Translate-clause-reply
returns-in-Some-Translate-clause-reply g c =
    let words = map string_bytes c.args.words.now in
    let s = seen g.F.Files.told g.F.Files.handed g.F.Files.faults c.args.files.now c.translate_file.new.files in
    IfOk-weaker c.translate_file.result (λ r. TranslateReply s c.in-Some-Translate.file.now r.status r.text) (λ r. IsReply words s r.status r.text)
    (λ r h. translate_reply words s c.in-Some-Translate.file.now r.status r.text (subst (IsCommand words) c.in-Some-Translate.field-0-is c.in-Some-Translate.ensures) h) c.translate_file.ensures.reply

pub returns-in-None-clause-reply : goal.returns-in-None-clause-reply
returns-in-None-clause-reply g c =
    let words = map string_bytes c.args.words.now in
    let s = seen g.F.Files.told g.F.Files.handed g.F.Files.faults c.args.files.now c.args.files.now in
    IfOk-weaker c.refused.result (λ r. IsRefusal R.Usage r.status r.text) (λ r. IsReply words s r.status r.text)
    (λ r h. misused words s r.status r.text c.in-None.ensures (reads_nothing g.F.Files.told g.F.Files.handed g.F.Files.faults c.args.files.now) h) c.refused.ensures
