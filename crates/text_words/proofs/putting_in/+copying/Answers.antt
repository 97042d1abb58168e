-- A part is smaller than the type.
use Rattle.std.proofs.Common.{arith}
use Rattle.text_words.proofs.Parts.{type_part}
use Rattle.text_words.proofs.putting_in.+copying.Goals as goal

pub copy_types-copy_type-requires : goal.copy_types-copy_type-requires
copy_types-copy_type-requires t c =
    let h = type_part c.args.types.now c.loop-ty.ty-index c.ty-item.result (omega arith) c.ty-item.is in
    (omega (arith, h), tt)
