-- The limit was not passed before this lexeme.
use Rattle.std.proofs.Common.{◌≡◌, ◌≤◌, drop}
use Rattle.source_syntax.specs.Limits as spec
use Rattle.source_syntax.proofs.limits.nests_deeply.Given as goal

abbrev pub invariant-loop-lexeme : goal.invariant-loop-lexeme
invariant-loop-lexeme l =
    (spec.passes spec.bracketing spec.itself 100 l.brackets (drop l.lexeme-index l.lexemes) ≡ spec.passes_nesting l.lexemes) × (l.brackets ≤ 100)
