use Rattle.std.proofs.Common.{◌≡◌, map, drop}
use Rattle.mach_mem.specs.Cells.{cell_number}
use Rattle.mach_mem.specs.Memory.{without}
use Rattle.mach_mem.proofs.memory.Memory.drop_frame.Given as goal

abbrev pub invariant-loop-cell : goal.invariant-loop-cell
invariant-loop-cell l =
    without (map cell_number (drop l.cell-index l.cells)) l.self ≡ without (map cell_number l.cells) l.fn.self
