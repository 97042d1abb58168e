-- Lexemes are read as a program (LANGUAGE.md, "Grammar").
use Rattle.std.specs.Prelude.{◌≡◌, List, []}
use Rattle.table_reader.specs.Reading as table
use Rattle.source_grammar.specs.Lexemes.{takes}
use Rattle.source_grammar.specs.Productions.{productions}
use Rattle.source_grammar.specs.declared.lexeme.Lexeme.{Lexeme}
use Rattle.source_grammar.specs.declared.terminal.Terminal.{Terminal}
use Rattle.source_grammar.specs.declared.part.Part.{Part}
use Rattle.source_grammar.specs.declared.part.Part.TheVariants as N
use Rattle.rust_ast.specs.declared.program.Program.{Program}
use Rattle.source_ways.specs.Carriers.{Carrier, made_by}
use Rattle.source_ways.specs.Makes.{makes}

-- the productions of each part, and what is made by each
abbrev pub made : (n : Part) → List (table.Made Terminal Part Lexeme Carrier n)
made n = made_by n (productions n) (makes n)

-- these lexemes are read as this program, in all
abbrev pub Reads : List Lexeme → Program → Type 0
Reads lexemes program = (v : Carrier N.Program) × (table.Reads takes Carrier made N.Program lexemes [] v × (program ≡ record { items = v.value }))
