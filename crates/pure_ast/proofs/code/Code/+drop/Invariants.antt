-- What is left to drop is no larger than the whole, and each turn it is less, or its next part is.
use Rattle.std.proofs.Common.{◌+◌, ◌*◌, ◌≤◌}
use Rattle.pure_ast.specs.Code.{nodes_code}
use Rattle.pure_ast.specs.CodeFalls.{nodes_waiting}
use Rattle.pure_ast.proofs.code.Code.+drop.Given as goal

abbrev pub invariant-loop-comp : goal.invariant-loop-comp
invariant-loop-comp l = nodes_code l.self + nodes_waiting l.left ≤ nodes_code l.fn.self

abbrev pub decreases-loop-comp : goal.decreases-loop-comp
decreases-loop-comp l = (nodes_code l.self + nodes_waiting l.left) * (nodes_code l.fn.self + 1) + nodes_code l.self
