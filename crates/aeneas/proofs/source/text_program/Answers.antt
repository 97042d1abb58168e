-- A text that is read as a program is looked at as one of what is translated.
use Rattle.std.proofs.Common.{subst}
use Rattle.std.proofs.lemmas.Result.{IfOk-weaker}
use Rattle.std.specs.Prelude.{Err}
use Rattle.rust_reader.specs.Answers.{IsReading}
use Rattle.aeneas.specs.SourceFound.{IsFoundIn, IsFoundWritten, IsUnread}
use Rattle.aeneas.specs.Syntax.{IsWritten}
use Rattle.aeneas.proofs.Sources.{only_written, unread_found, written_found}
use Rattle.aeneas.proofs.source.text_program.Goals as goal

pub returns-in-Ok : goal.returns-in-Ok
returns-in-Ok c =
    let text = c.args.text.now in
    let tokens = c.in_ok-tokens.tokens in
    let lexed = c.in_ok-tokens.ensures in
    let program = c.in-Ok.program in
    let h = c.in-Ok.ensures in
    let w : IsWritten text program = record { utf8 = c.utf8.text; tokens = tokens.list; bad = tokens.bad; are = lexed.tokens; kept = h.0; reads = h.1 } in
    IfOk-weaker c.written_program.result (IsFoundWritten program) (IsFoundIn text)
    (written_found text program w (only_written text tokens.list tokens.bad c.utf8.text lexed.tokens lexed.only program h.2)) c.written_program.ensures

pub returns : goal.returns
returns c =
    let text = c.args.text.now in
    let tokens = c.in_ok-tokens.tokens in
    IfOk-weaker c.unread.result (IsUnread c.in-Err.fault) (IsFoundIn text)
    (unread_found text tokens.list tokens.bad c.utf8.text c.in_ok-tokens.ensures.tokens c.in-Err.fault c.in-Err.ensures) c.unread.ensures
