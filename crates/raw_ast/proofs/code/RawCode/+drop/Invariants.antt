-- What is left to drop is no larger than the whole, and each turn it is less, or its next part is.
use Rattle.std.proofs.Common.{◌+◌, ◌*◌, ◌≤◌}
use Rattle.raw_ast.specs.Code.{nodes_rawcode}
use Rattle.raw_ast.specs.CodeFalls.{nodes_waiting}
use Rattle.raw_ast.proofs.code.RawCode.+drop.Given as goal

abbrev pub invariant-loop-variable : goal.invariant-loop-variable
invariant-loop-variable l = nodes_rawcode l.self + nodes_waiting l.left ≤ nodes_rawcode l.fn.self

abbrev pub decreases-loop-variable : goal.decreases-loop-variable
decreases-loop-variable l = (nodes_rawcode l.self + nodes_waiting l.left) * (nodes_rawcode l.fn.self + 1) + nodes_rawcode l.self
