-- The productions of what is made are those of the grammar, in their order.
use Rattle.std.specs.Prelude.{◌≡◌}
use Rattle.table_reader.specs.Making.{same_made}
use Rattle.table_reader.specs.Reading.{plain}
use Rattle.text_table.specs.declared.lexeme.Lexeme.{Lexeme}
use Rattle.text_table.specs.declared.part.Part.{Part}
use Rattle.text_table.specs.declared.terminal.Terminal.{Terminal}
use Rattle.text_table.specs.Productions.{productions}
use Rattle.raw_values.specs.Carriers.{carrier}
use Rattle.raw_ways.specs.Makes.{makes, made}

pub same_productions : (n : Part) → plain carrier n (made n) ≡ productions n
same_productions n = same_made Terminal Part Lexeme carrier productions makes n
