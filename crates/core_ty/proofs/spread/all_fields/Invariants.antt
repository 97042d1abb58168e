use Rattle.std.specs.List.{All}
use Rattle.core_ty.specs.Spread as spec
use Rattle.core_ty.proofs.spread.all_fields.Given as goal

abbrev pub invariant-loop-user : goal.invariant-loop-user
invariant-loop-user l =
    All (spec.IsHeld l.decls) l.held
