use Rattle.std.proofs.Common.{◌-◌, ◌+◌, arith}
use Rattle.aen_base.proofs.Results.{bits_inside}
use Rattle.aen_base.proofs.number.Num.of_bits.Goals as goal

pub new-requires-else-bits-greatest : goal.new-requires-else-bits-greatest
new-requires-else-bits-greatest c =
    bits_inside c.args.ty c.args.bits (c.mask.result - c.args.bits + 1) (omega arith) (omega arith) (omega arith)
