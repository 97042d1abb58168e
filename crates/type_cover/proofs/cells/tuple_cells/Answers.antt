use Rattle.std.proofs.Common.{◌∙◌, arith}
use Rattle.std.proofs.lemmas.List.{take_all}
use Rattle.type_cover.proofs.CellRows.{as_parts}
use Rattle.type_cover.specs.Cells.{row_now}
use Rattle.type_cover.proofs.cells.tuple_cells.Goals as goal

pub returns : goal.returns
returns c = as_parts (row_now c.loop-part.row) c.args.parts.now (c.loop-part.invariant ∙ take_all c.loop-part.part-index c.args.parts.now (omega arith))
