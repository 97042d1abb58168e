use Rattle.text_words.proofs.Pieces.{after_empty}
use Rattle.text_words.proofs.naming_words.after.Goals as goal

pub returns-in-empty : goal.returns-in-empty
returns-in-empty c =
    after_empty c.args.piece.now c.as_bytes-byte-items.result.now c.args.text.now c.loop-byte.rest.now c.loop-byte.byte-index
    c.as_bytes-byte-items.ensures.value c.loop-byte-test.true c.in-empty.len_below c.loop-byte.invariant
