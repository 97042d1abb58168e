use Rattle.std.specs.List.{All}
use Rattle.core_ty.specs.Types.{named, tys}
use Rattle.core_ty.specs.Marks.{AreSound}
use Rattle.core_ty.specs.Spread as spec
use Rattle.core_ty.proofs.spread.enter_arguments.Given as goal

abbrev pub invariant-loop-place : goal.invariant-loop-place
invariant-loop-place l =
    (ds : spec.Decls) → spec.Holds ds l.user (named l.decl (tys l.args)) → AreSound ds l.rows →
    All (spec.IsHeld ds) l.initial.held → All (spec.IsWaiting ds) l.initial.waiting →
    All (spec.IsHeld ds) l.held × All (spec.IsWaiting ds) l.waiting
