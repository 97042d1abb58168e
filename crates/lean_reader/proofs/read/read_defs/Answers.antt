use Rattle.std.proofs.Common.{◌∙◌, ap, length}
use Rattle.text_syntax.specs.Brackets.{few_lexemes}
use Rattle.lean_reader.specs.Faults.{classed}
use Rattle.lean_reader.proofs.ReadingLemmas.{Lexing, is_read, is_fault, grammar_fault, read_as, misread, handed_on}
use Rattle.lean_reader.proofs.read.read_defs.Goals as goal

pub returns-in_err-definitions_within-in-Ok : goal.returns-in_err-definitions_within-in-Ok
returns-in_err-definitions_within-in-Ok c =
    let l = c.in_ok-list.field-0 in
    let h : Lexing c.args.text.now l = record { exact = c.in_ok-list.ensures.exact; none = c.in_ok-list.ensures.none; lexed = c.in_ok-list.ensures.lexed; names = c.in_ok-list.ensures.names } in
    let g = read_as _ c.in_ok-lexemes.lexemes l.fault (length c.args.text.now) c.in_ok-raw.field-0 c.in-Ok.raw c.in_ok-lexemes.ensures c.in-Ok.is c.in_ok-raw.ensures in
    let few = c.has_few_brackets-has_few.ensures ∙ ap (few_lexemes 0) c.as_slice.ensures in
    handed_on c.args.text.now c.from_residual-in_err-definitions_within-in-Ok.result c.in_err-definitions_within-in-Ok.field-0.0 c.from_residual-in_err-definitions_within-in-Ok.ensures.1
    (is_fault c.args.text.now l c.in-Ok.raw c.in_err-definitions_within-in-Ok.field-0.0 c.has_few_brackets-has_few.result h g few c.in_err-definitions_within-in-Ok.ensures)

pub returns-in_ok-definitions_within-in-Ok : goal.returns-in_ok-definitions_within-in-Ok
returns-in_ok-definitions_within-in-Ok c =
    let l = c.in_ok-list.field-0 in
    let h : Lexing c.args.text.now l = record { exact = c.in_ok-list.ensures.exact; none = c.in_ok-list.ensures.none; lexed = c.in_ok-list.ensures.lexed; names = c.in_ok-list.ensures.names } in
    let g = read_as _ c.in_ok-lexemes.lexemes l.fault (length c.args.text.now) c.in_ok-raw.field-0 c.in-Ok.raw c.in_ok-lexemes.ensures c.in-Ok.is c.in_ok-raw.ensures in
    let few = c.has_few_brackets-has_few.ensures ∙ ap (few_lexemes 0) c.as_slice.ensures in
    is_read c.args.text.now l c.in-Ok.raw c.in_ok-definitions_within-in-Ok.field-0 c.has_few_brackets-has_few.result h g few c.in_ok-definitions_within-in-Ok.ensures

pub returns-in-Err : goal.returns-in-Err
returns-in-Err c =
    let l = c.in_ok-list.field-0 in
    let h : Lexing c.args.text.now l = record { exact = c.in_ok-list.ensures.exact; none = c.in_ok-list.ensures.none; lexed = c.in_ok-list.ensures.lexed; names = c.in_ok-list.ensures.names } in
    let m = misread (classed l.list) c.in_ok-lexemes.lexemes l.fault (length c.args.text.now) c.in_ok-raw.field-0 c.in-Err.place c.in_ok-lexemes.ensures c.in-Err.is c.in_ok-raw.ensures in
    grammar_fault c.args.text.now l m.number c.in-Err.place h m.none m.fault m.placed
