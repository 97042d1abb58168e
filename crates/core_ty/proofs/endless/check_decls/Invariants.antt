use Rattle.std.proofs.Common.{ℕ, ◌<◌}
use Rattle.core_ty.specs.Containment.{IsEndless}
use Rattle.core_ty.proofs.endless.check_decls.Given as goal

abbrev pub invariant-loop-decl : goal.invariant-loop-decl
invariant-loop-decl l = (e : ℕ) → e < l.decl → IsEndless l.decls e → ⊥
