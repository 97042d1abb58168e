-- A part is smaller than the term.
use Rattle.std.proofs.Common.{arith}
use Rattle.pure_eval.proofs.Parts.{term_part}
use Rattle.pure_eval.proofs.terms.+terms.Goals as goal

pub term_values-term_value-requires : goal.term_values-term_value-requires
term_values-term_value-requires t c =
    let h = term_part c.args.parts.now c.loop-part.part-index c.part-item.result (omega arith) c.part-item.is in
    (omega (arith, h), tt)
