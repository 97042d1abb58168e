use Rattle.std.proofs.Common.{◌≡◌, take}
use Rattle.type_cover.specs.Cells.{head_of, rows_now}
use Rattle.type_cover.specs.Rows.{left_of, rows_by}
use Rattle.type_cover.proofs.rows.rows_at.Given as goal

abbrev pub invariant-loop-row : goal.invariant-loop-row
invariant-loop-row l = rows_now l.done ≡ rows_by (left_of (head_of l.head)) (rows_now (take l.row-index l.rows))
