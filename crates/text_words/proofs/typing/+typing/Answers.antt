-- A part is smaller than the value.
use Rattle.std.proofs.Common.{arith}
use Rattle.text_words.proofs.Parts.{value_part}
use Rattle.text_words.proofs.typing.+typing.Goals as goal

pub have_types-has_type-requires : goal.have_types-has_type-requires
have_types-has_type-requires t c =
    let h = value_part c.args.values.now c.loop-value.value-index c.value-item.result (omega arith) c.value-item.is in
    (omega (arith, h), tt)
