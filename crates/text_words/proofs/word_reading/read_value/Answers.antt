use Rattle.text_words.proofs.ValueReading.{value_read, no_word, some_fault, no_fault}
use Rattle.text_words.proofs.word_reading.read_value.Goals as goal

pub returns-then-is_some : goal.returns-then-is_some
returns-then-is_some c = no_word c.args.defs.now c.args.ty.now c.args.word.now (c.in_ok-list.ensures.none (some_fault c.in_ok-list.field-0.fault c.if-is_some.ensures))

pub returns : goal.returns
returns c =
    let l = c.in_ok-list.field-0 in
    value_read c.args.defs.now c.args.tables.now c.args.ty.now l.list c.args.word.now c.in_ok-term.term c.value_of.result
    c.requires.well_formed c.requires.own (c.in_ok-list.ensures.exact (no_fault l.fault c.if-is_some.ensures)) c.in_ok-list.ensures.names c.in_ok-term.ensures c.value_of.ensures
