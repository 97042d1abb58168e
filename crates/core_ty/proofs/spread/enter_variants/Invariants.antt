use Rattle.std.specs.List.{All}
use Rattle.core_ty.specs.Spread as spec
use Rattle.core_ty.proofs.spread.enter_variants.Given as goal

abbrev pub invariant-loop-variant : goal.invariant-loop-variant
invariant-loop-variant l =
    (ds : spec.Decls) → spec.HoldsVariants ds l.user l.variants → All (spec.IsHeld ds) l.initial.held → All (spec.IsHeld ds) l.held
