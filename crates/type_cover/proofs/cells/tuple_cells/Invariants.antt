use Rattle.std.proofs.Common.{◌≡◌, take}
use Rattle.type_cover.specs.Cells.{row_now}
use Rattle.type_cover.proofs.cells.tuple_cells.Given as goal

abbrev pub invariant-loop-part : goal.invariant-loop-part
invariant-loop-part l = row_now l.row ≡ take l.part-index l.parts
