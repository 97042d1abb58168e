-- The limit was not passed before this lexeme.
use Rattle.std.proofs.Common.{◌≡◌, ◌≤◌, drop}
use Rattle.source_syntax.specs.Limits as spec
use Rattle.source_syntax.specs.Levels.{seen, IsLevels}
use Rattle.source_syntax.proofs.limits.is_deep.Given as goal

abbrev pub invariant-loop-lexeme : goal.invariant-loop-lexeme
invariant-loop-lexeme l =
    (spec.passes spec.levelling spec.depth 250 (seen l.levels) (drop l.lexeme-index l.lexemes) ≡ spec.passes_depth l.lexemes)
    × IsLevels l.levels × (l.levels.depth ≤ 250)
