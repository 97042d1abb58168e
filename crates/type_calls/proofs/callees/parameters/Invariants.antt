use Rattle.std.proofs.Common.{◌≡◌}
use Rattle.type_calls.proofs.Parameters.{from}
use Rattle.type_calls.proofs.callees.parameters.Given as goal

abbrev pub invariant-loop-i : goal.invariant-loop-i
invariant-loop-i l = l.all ≡ from l.i 0
