use Rattle.std.proofs.Common.{◌≡◌, take}
use Rattle.name_uses.specs.FunctionBodies.{param_variables}
use Rattle.name_uses.proofs.function_bodies.param_variables.Given as goal

abbrev pub invariant-loop-i : goal.invariant-loop-i
invariant-loop-i l = l.variables ≡ param_variables (take l.i l.params)
