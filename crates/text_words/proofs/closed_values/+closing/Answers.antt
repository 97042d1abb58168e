-- A part is smaller than the term.
use Rattle.std.proofs.Common.{arith}
use Rattle.text_words.proofs.Parts.{term_part}
use Rattle.text_words.proofs.closed_values.+closing.Goals as goal

pub closed_values-closed_value-requires : goal.closed_values-closed_value-requires
closed_values-closed_value-requires t c =
    let h = term_part c.args.terms.now c.loop-term.term-index c.term-item.result (omega arith) c.term-item.is in
    (omega (arith, h), tt)
