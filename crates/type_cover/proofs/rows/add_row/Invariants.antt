use Rattle.std.proofs.Common.{◌≡◌, ◌++◌, take}
use Rattle.type_cover.proofs.rows.add_row.Given as goal

abbrev pub invariant-loop-cell : goal.invariant-loop-cell
invariant-loop-cell l = l.row ≡ l.initial.row ++ take l.cell-index l.others
