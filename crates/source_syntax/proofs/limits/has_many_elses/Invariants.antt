-- The limit was not passed before this lexeme.
use Rattle.std.proofs.Common.{◌≡◌, ◌≤◌, drop}
use Rattle.source_syntax.specs.Limits as spec
use Rattle.source_syntax.proofs.limits.has_many_elses.Given as goal

abbrev pub invariant-loop-lexeme : goal.invariant-loop-lexeme
invariant-loop-lexeme l =
    (spec.passes spec.elses spec.itself 250 l.elses (drop l.lexeme-index l.lexemes) ≡ spec.passes_else l.lexemes) × (l.elses ≤ 250)
