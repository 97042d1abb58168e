use Rattle.std.proofs.Common.{◌≡◌, drop}
use Rattle.std.specs.List.{list_all}
use Rattle.type_cover.specs.Cells.{rows_now}
use Rattle.type_cover.specs.Rows.{begins_open}
use Rattle.type_cover.proofs.rows.all_begin_open.Given as goal

abbrev pub invariant-loop-row : goal.invariant-loop-row
invariant-loop-row l = list_all begins_open (rows_now (drop l.row-index l.rows)) ≡ list_all begins_open (rows_now l.rows)
