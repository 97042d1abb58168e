use Rattle.std.proofs.Common.{◌≡◌, length}
use Rattle.source_ways.specs.Operators as spec
use Rattle.expression_ways.proofs.operators.fields_of.Given as goal

abbrev pub invariant-loop-field : goal.invariant-loop-field
invariant-loop-field l = spec.fields_of l.lo l.e l.rest ≡ spec.fields_of l.lo l.fn.first l.fn.fields

abbrev pub decreases-loop-field : goal.decreases-loop-field
decreases-loop-field l = length l.rest
