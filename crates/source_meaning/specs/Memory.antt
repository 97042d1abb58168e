-- A memory: a list of cells, each empty, gone, or holding a tree (LANGUAGE.md, "Memory").
use Rattle.std.specs.Prelude.{ℕ, List, [], ◌∷◌, slice_get, slice_set, Option, Some, None, option_and_then}
use Rattle.aen_base.specs.Numbers.{Number}

-- what a cell or a register holds: a number, or unit
pub data MTree : Type 0 where
  num : Number → MTree
  unit : MTree

pub data Cell : Type 0 where
  empty : Cell
  gone : Cell
  holds : MTree → Cell

abbrev pub Memory : Type 0
Memory = List Cell

abbrev pub held : Cell → Option MTree
held empty = None
held gone = None
held (holds v) = Some v

-- what stands in a cell: nothing where the cell is missing, empty or gone
abbrev pub read_cell : Memory → ℕ → Option MTree
read_cell m c = option_and_then held (slice_get m c)

abbrev pub write_to : Memory → ℕ → MTree → Option Cell → Option Memory
write_to m c t None = None
write_to m c t (Some gone) = None
write_to m c t (Some _) = Some (slice_set m c (holds t))

-- the memory with this tree in a cell: none where the cell is missing or gone
abbrev pub write_cell : Memory → ℕ → MTree → Option Memory
write_cell m c t = write_to m c t (slice_get m c)

-- the cells of a frame go at its return
abbrev pub drop_frame : List ℕ → Memory → Memory
drop_frame [] m = m
drop_frame (c ∷ cs) m = drop_frame cs (slice_set m c gone)
