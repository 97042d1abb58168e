use Rattle.std.proofs.Common.{ℕ, ◌<◌}
use Rattle.core_ty.specs.Ranks as spec
use Rattle.core_ty.proofs.clear.are_ranked.Given as goal

abbrev pub invariant-loop-decl : goal.invariant-loop-decl
invariant-loop-decl l = (d : ℕ) → d < l.decl → spec.IsRanked l.decls l.rows l.ranks d
