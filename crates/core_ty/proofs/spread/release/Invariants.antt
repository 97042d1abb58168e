use Rattle.std.specs.List.{All}
use Rattle.core_ty.specs.Marks.{AreSound}
use Rattle.core_ty.specs.Spread as spec
use Rattle.core_ty.proofs.spread.release.Given as goal

abbrev pub invariant-loop-turn : goal.invariant-loop-turn
invariant-loop-turn l =
    (ds : spec.Decls) → AreSound ds l.rows → All (spec.IsWaiting ds) l.waiting → All (spec.IsHeld ds) l.initial.held → All (spec.IsHeld ds) l.held
