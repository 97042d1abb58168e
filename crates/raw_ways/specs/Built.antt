-- What a production builds of the values that stand on a stack, the newest first.
use Rattle.std.specs.Prelude.{ℕ}
use Rattle.table_reader.specs.Building as table
use Rattle.text_table.specs.declared.part.Part.{Part}
use Rattle.raw_values.specs.Carriers.{carrier, held}
use Rattle.raw_values.specs.Stacked.{Stack}
use Rattle.raw_values.specs.declared.value.Value.{Value}
use Rattle.raw_ways.specs.Makes.{made}

-- the values of the symbols of a part's production in this place stand on top
abbrev pub CanBuild : Part → ℕ → Stack → Type 0
CanBuild n i stack = table.CanBuild carrier held n (made n) i stack

-- this is the value that it makes of them, and this is what stood below
abbrev pub IsBuilt : Part → ℕ → Stack → Value → Stack → Type 0
IsBuilt n i stack it new = table.IsBuilt carrier held n (made n) i stack it new
