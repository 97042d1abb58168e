use Rattle.std.proofs.Common.{sym, subst, List, ℕ}
use Rattle.core_ty.specs.Types as t
use Rattle.core_ty.specs.Spread.{HoldsFields}
use Rattle.core_ty.proofs.Spreading.{variant_held}
use Rattle.core_ty.proofs.spread.enter_variants.Goals as goal

pub loop-variant-preserved : goal.loop-variant-preserved
loop-variant-preserved c ds holds all =
    c.in_ok-enter_fields.ensures ds
    (subst (λ (fs : List (List ℕ × t.Ty)). HoldsFields ds c.args.user fs) (sym c.as_slice.ensures)
    (variant_held ds c.args.user c.args.variants.now c.loop-variant.variant-index c.variant-item.result c.loop-variant-test.true c.variant-item.is holds))
    (c.loop-variant.invariant ds holds all)
