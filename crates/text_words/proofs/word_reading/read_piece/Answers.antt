use Rattle.text_words.proofs.ValueReading.{piece_read, no_piece, some_fault, no_fault}
use Rattle.text_words.proofs.word_reading.read_piece.Goals as goal

pub returns-then-is_some : goal.returns-then-is_some
returns-then-is_some c = no_piece c.args.defs.now c.args.piece.now (c.in_ok-list.ensures.none (some_fault c.in_ok-list.field-0.fault c.if-is_some.ensures))

pub returns : goal.returns
returns c =
    let l = c.in_ok-list.field-0 in
    piece_read c.args.defs.now c.args.tables.now l.list c.args.piece.now c.read_plain_type.result
    c.requires.well_formed c.requires.own (c.in_ok-list.ensures.exact (no_fault l.fault c.if-is_some.ensures)) c.in_ok-list.ensures.names c.read_plain_type.ensures
