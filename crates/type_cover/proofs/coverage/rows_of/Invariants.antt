use Rattle.std.proofs.Common.{◌≡◌, map, take}
use Rattle.type_cover.specs.Cells.{rows_now}
use Rattle.type_cover.specs.Splitting.{as_row}
use Rattle.type_cover.proofs.coverage.rows_of.Given as goal

abbrev pub invariant-loop-pattern : goal.invariant-loop-pattern
invariant-loop-pattern l = rows_now l.rows ≡ map as_row (map (λ p. p.now) (take l.pattern-index l.patterns))
