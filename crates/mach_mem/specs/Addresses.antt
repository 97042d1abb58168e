-- Where a tree stands: a cell, and the way down in what the cell holds (LANGUAGE.md, "Memory").
use Rattle.std.specs.Prelude.{ℕ, List}
use Rattle.std.specs.Coded.{Coded, coded×, coded_list, coded_ℕ}

-- a cell by its number
abbrev pub CellNumber : Type 0
CellNumber = ℕ

-- numbers of parts, the last step first
abbrev pub Path : Type 0
Path = List ℕ

abbrev pub Address : Type 0
Address = CellNumber × Path

abbrev pub coded_address : Coded Address
coded_address = coded× coded_ℕ (coded_list coded_ℕ)
