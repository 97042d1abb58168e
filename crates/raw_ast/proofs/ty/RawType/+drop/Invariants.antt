-- What is left to drop is no larger than the whole, and each turn it is less, or its next part is.
use Rattle.std.proofs.Common.{◌+◌, ◌*◌, ◌≤◌}
use Rattle.raw_ast.specs.Types.{nodes_rawtype}
use Rattle.raw_ast.specs.TypeLeft.{nodes_waiting}
use Rattle.raw_ast.proofs.ty.RawType.+drop.Given as goal

abbrev pub invariant-loop-held : goal.invariant-loop-held
invariant-loop-held l = nodes_rawtype l.self + nodes_waiting l.waiting ≤ nodes_rawtype l.fn.self

abbrev pub decreases-loop-held : goal.decreases-loop-held
decreases-loop-held l = (nodes_rawtype l.self + nodes_waiting l.waiting) * (nodes_rawtype l.fn.self + 1) + nodes_rawtype l.self
