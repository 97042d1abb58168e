use Rattle.std.proofs.Common.{◌≡◌, [], drop}
use Rattle.rust_ast.specs.Resolved.{stmts}
use Rattle.rust_sums.specs.Sums as spec
use Rattle.rust_sums.proofs.statements.statements.Given as goal

abbrev pub invariant-loop-stmt : goal.invariant-loop-stmt
invariant-loop-stmt l = spec.stmts l.earlier l.next l.total l.done (stmts (drop l.stmt-index l.stmts)) ≡ spec.stmts l.earlier l.count l.total [] (stmts l.stmts)
