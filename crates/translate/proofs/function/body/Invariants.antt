use Rattle.sums_ast.specs.Tree.{maybeexpr}
use Rattle.translate.proofs.Statements.{AlongBody}
use Rattle.translate.proofs.function.body.Given as goal

abbrev pub invariant-loop-statement : goal.invariant-loop-statement
invariant-loop-statement l = AlongBody l.fn.emitter l.emitter l.fn.atoms l.parts.statements (maybeexpr l.parts.last) l.statement-index l.atoms
