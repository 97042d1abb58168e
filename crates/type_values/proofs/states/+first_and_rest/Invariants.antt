use Rattle.std.proofs.Common.{length}
use Rattle.type_values.proofs.states.+first_and_rest.Given as goal

abbrev pub decreases-first_and_rest : goal.decreases-first_and_rest
decreases-first_and_rest l = length l.loops
