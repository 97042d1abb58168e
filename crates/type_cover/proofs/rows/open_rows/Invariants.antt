use Rattle.std.proofs.Common.{◌≡◌, take}
use Rattle.type_cover.specs.Cells.{rows_now}
use Rattle.type_cover.specs.Rows.{left_open, rows_by}
use Rattle.type_cover.proofs.rows.open_rows.Given as goal

abbrev pub invariant-loop-row : goal.invariant-loop-row
invariant-loop-row l = rows_now l.done ≡ rows_by left_open (rows_now (take l.row-index l.rows))
