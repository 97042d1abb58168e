use Rattle.std.proofs.Common.{◌≡◌}
use Rattle.translate.specs.Emit as spec
use Rattle.translate.proofs.function.parameter_atoms.Given as goal

abbrev pub invariant-loop-variable : goal.invariant-loop-variable
invariant-loop-variable l = l.atoms ≡ spec.parameter_atoms l.variable
