-- A part is smaller than the type.
use Rattle.std.proofs.Common.{arith}
use Rattle.text_words.proofs.Parts.{type_part}
use Rattle.text_words.proofs.putting_in.+putting.Goals as goal

pub put_in_all-put_in-requires : goal.put_in_all-put_in-requires
put_in_all-put_in-requires t c =
    let h = type_part c.args.types.now c.loop-ty.ty-index c.ty-item.result (omega arith) c.ty-item.is in
    (omega (arith, h), tt)
