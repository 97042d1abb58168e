use Rattle.std.specs.List.{All}
use Rattle.core_ty.specs.Types.{tuple, tys}
use Rattle.core_ty.specs.Spread as spec
use Rattle.core_ty.proofs.spread.enter_parts.Given as goal

abbrev pub invariant-loop-part : goal.invariant-loop-part
invariant-loop-part l =
    (ds : spec.Decls) → spec.Holds ds l.user (tuple (tys l.parts)) → All (spec.IsHeld ds) l.initial.held → All (spec.IsHeld ds) l.held
