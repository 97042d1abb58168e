-- A cell as its number.
use Rattle.mach_mem.specs.Addresses.{CellNumber}
use Rattle.mach_mem.specs.declared.address.Cell.{Cell}

abbrev pub cell_number : Cell → CellNumber
cell_number c = c.0
