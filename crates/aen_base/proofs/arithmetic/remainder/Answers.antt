use Rattle.aen_base.specs.Wholes.{whole}
use Rattle.aen_base.proofs.Results.{remainder_inside}
use Rattle.aen_base.proofs.arithmetic.remainder.Goals as goal

pub new-requires : goal.new-requires
new-requires c = rw (c.ty.ensures, c.remainder-rest.ensures)
    (remainder_inside c.args.a.ty (whole c.whole.result) (whole c.whole-2.result) c.whole.ensures.within)
