use Rattle.std.proofs.Common.{◌≡◌, length}
use Rattle.source_ways.specs.Operators as spec
use Rattle.expression_ways.proofs.operators.cast_to.Given as goal

abbrev pub invariant-loop-cast : goal.invariant-loop-cast
invariant-loop-cast l = spec.cast_to l.lo l.e l.rest ≡ spec.cast_to l.lo l.fn.first l.fn.casts

abbrev pub decreases-loop-cast : goal.decreases-loop-cast
decreases-loop-cast l = length l.rest
