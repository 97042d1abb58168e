use Rattle.std.proofs.Common.{◌≡◌, ◌++◌, drop}
use Rattle.rust_sums.specs.Sums as spec
use Rattle.rust_sums.proofs.functions.variable_names.Given as goal

abbrev pub invariant-loop-variable : goal.invariant-loop-variable
invariant-loop-variable l = l.names ++ spec.variable_names (drop l.variable-index l.variables) ≡ spec.variable_names l.variables
