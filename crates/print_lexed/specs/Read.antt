-- Programs that are read from a text (LANGUAGE.md, "Tokens", "Grammar").
use Rattle.std.specs.Prelude.{ℕ, List, None}
use Rattle.rust_ast.specs.declared.program.Program.{Program}
use Rattle.rust_lex.specs.declared.token.Token.{Token}
use Rattle.rust_lex.specs.Lexing.{AreTokens}
use Rattle.source_syntax.specs.Spelled.{lexemes}
use Rattle.source_ways.specs.Reading.{Reads}

-- the text is lexed without a fault, and its lexemes are read as the program
abbrev pub IsReadFrom : List ℕ → Program → Type 0
IsReadFrom text program = (tokens : List Token) × (AreTokens text tokens None × Reads (lexemes text None tokens) program)
