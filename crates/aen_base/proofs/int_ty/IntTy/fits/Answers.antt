use Rattle.aen_base.proofs.Sizes.{below_depth}
use Rattle.aen_base.proofs.int_ty.IntTy.fits.Goals as goal

pub returns-then-neg : goal.returns-then-neg
returns-then-neg c = rw (c.deepest.ensures, c.if-neg.true) (below_depth c.args.self c.args.mag)
