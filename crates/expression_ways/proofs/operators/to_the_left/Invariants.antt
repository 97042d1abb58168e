use Rattle.std.proofs.Common.{◌≡◌, length}
use Rattle.source_ways.specs.Operators as spec
use Rattle.expression_ways.proofs.operators.to_the_left.Given as goal

abbrev pub invariant-loop-operation : goal.invariant-loop-operation
invariant-loop-operation l = spec.to_the_left l.lo l.e l.rest ≡ spec.to_the_left l.lo l.fn.first l.fn.operations

abbrev pub decreases-loop-operation : goal.decreases-loop-operation
decreases-loop-operation l = length l.rest
