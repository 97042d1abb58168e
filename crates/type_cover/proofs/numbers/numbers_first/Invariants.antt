use Rattle.std.proofs.Common.{◌≡◌, [], take}
use Rattle.type_cover.specs.Cells.{rows_now, values_now}
use Rattle.type_cover.specs.Ways.{numbers_onto}
use Rattle.type_cover.proofs.numbers.numbers_first.Given as goal

abbrev pub invariant-loop-row : goal.invariant-loop-row
invariant-loop-row l = values_now l.numbers ≡ numbers_onto [] (rows_now (take l.row-index l.rows))
