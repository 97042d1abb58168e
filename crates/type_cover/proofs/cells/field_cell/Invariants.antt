use Rattle.std.proofs.Common.{◌≡◌, drop}
use Rattle.rust_ast.specs.SpelledPatterns.{fieldpats}
use Rattle.type_cover.specs.Rows.{field_pattern}
use Rattle.type_cover.proofs.cells.field_cell.Given as goal

abbrev pub invariant-loop-field : goal.invariant-loop-field
invariant-loop-field l = field_pattern (fieldpats (drop l.field-index l.fields)) l.number ≡ field_pattern (fieldpats l.fields) l.number
