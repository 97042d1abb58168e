use Rattle.std.proofs.Common.{◌≡◌, drop, map}
use Rattle.std.specs.Prelude.{max}
use Rattle.type_rules.specs.Coverage as spec
use Rattle.type_cover.proofs.nesting.levels.Given as goal

abbrev pub invariant-loop-pattern : goal.invariant-loop-pattern
invariant-loop-pattern l = max l.levels (spec.levels (map (λ p. p.now) (drop l.pattern-index l.patterns))) ≡ spec.levels (map (λ p. p.now) l.patterns)
