-- A file that is a program is accepted.
use Rattle.std.proofs.Common.{◌≡◌, inr, subst}
use Rattle.std.proofs.lemmas.Result.{IfOk-weaker}
use Rattle.aeneas.specs.Lines.{accepted_line}
use Rattle.aeneas.specs.Reply.{CheckReply}
use Rattle.aeneas.specs.Seen.{seen}
use Rattle.aeneas.specs.Source.{IsSource}
use Rattle.aeneas.specs.SourceFound.{IsFound}
use Rattle.aeneas.proofs.check_file.check_file.Goals as goal

pub returns-in-Read-clause-reply : goal.returns-in-Read-clause-reply
returns-in-Read-clause-reply g c =
    let s = seen g.F.Files.told g.F.Files.handed g.F.Files.faults c.args.files.now c.source_of.new.files in
    let program = c.in-Read._program in
    let source : IsSource s c.args.file.now program = subst (IsFound s c.args.file.now) c.in-Read.is c.in_ok-_program.ensures.found in
    IfOk-weaker c.one_line.result (λ r. (r.status ≡ 0) × (r.text ≡ accepted_line)) (λ r. CheckReply s c.args.file.now r.status r.text)
    (λ r h. inr (record { status_is = h.0; text_is = h.1; program = program; source = source })) c.one_line.ensures
