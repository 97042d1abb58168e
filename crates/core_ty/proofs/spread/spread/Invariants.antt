use Rattle.core_ty.specs.Spread as spec
use Rattle.core_ty.proofs.spread.spread.Given as goal

abbrev pub invariant-loop-turn : goal.invariant-loop-turn
invariant-loop-turn l = spec.IsSpread l.decls l.rows l.held l.waiting
