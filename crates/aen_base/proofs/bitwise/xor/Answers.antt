use Rattle.std.proofs.lemmas.Nat.{xor_lt}
use Rattle.aen_base.specs.Numbers.{width}
use Rattle.aen_base.specs.Wholes.{whole}
use Rattle.aen_base.proofs.LowBits.{bits_below}
use Rattle.aen_base.proofs.bitwise.xor.Goals as goal

pub of_bits-requires : goal.of_bits-requires
of_bits-requires c =
    let ty = c.ty-ty.result in
    xor_lt (width ty) c.bits_of.result c.bits_of-2.result
    (bits_below ty (whole c.whole.result) c.bits_of.result c.bits_of.ensures)
    (bits_below ty (whole c.whole-2.result) c.bits_of-2.result c.bits_of-2.ensures)
