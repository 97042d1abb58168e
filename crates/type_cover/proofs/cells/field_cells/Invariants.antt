use Rattle.std.proofs.Common.{◌≡◌}
use Rattle.rust_ast.specs.SpelledPatterns.{fieldpats}
use Rattle.type_cover.specs.Cells.{row_now}
use Rattle.type_cover.specs.Rows.{fields_from}
use Rattle.type_cover.proofs.cells.field_cells.Given as goal

abbrev pub invariant-loop-number : goal.invariant-loop-number
invariant-loop-number l = row_now l.row ≡ fields_from (fieldpats l.fields) 0 l.number
