use Rattle.std.specs.List.{All}
use Rattle.core_ty.specs.Spread as spec
use Rattle.core_ty.proofs.spread.enter_fields.Given as goal

abbrev pub invariant-loop-field : goal.invariant-loop-field
invariant-loop-field l =
    (ds : spec.Decls) → spec.HoldsFields ds l.user l.fields → All (spec.IsHeld ds) l.initial.held → All (spec.IsHeld ds) l.held
