-- Each part is smaller than the whole.
use Rattle.std.proofs.Common.{arith}
use Rattle.rust_printer.proofs.Parts.{patterns_part, field_patterns_part}
use Rattle.rust_printer.proofs.patterns.+pattern.Goals as goal

pub put_patterns-put_pattern-requires : goal.put_patterns-put_pattern-requires
put_patterns-put_pattern-requires t c =
    let h = patterns_part c.args.parts.now c.loop-part.part-index c.part-item.result (omega arith) c.part-item.is in (omega (arith, h), tt)

pub put_field_patterns-put_field_pattern-requires : goal.put_field_patterns-put_field_pattern-requires
put_field_patterns-put_field_pattern-requires t c =
    let h = field_patterns_part c.args.parts.now c.loop-part.part-index c.part-item.result (omega arith) c.part-item.is in (omega (arith, h), tt)
