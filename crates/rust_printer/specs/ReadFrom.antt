-- Programs that are read from lexemes as texts have them (LANGUAGE.md, "Tokens", "Grammar").
use Rattle.std.specs.Prelude.{◌≡◌, true, List, [], ◌∷◌}
use Rattle.rust_ast.specs.declared.program.Program.{Program}
use Rattle.source_grammar.specs.declared.class.Class.TheVariants as C
use Rattle.source_grammar.specs.declared.lexeme.Lexeme.{Lexeme}
use Rattle.source_grammar.specs.declared.terminal.Terminal.TheVariants as T
use Rattle.source_grammar.specs.Lexemes.{has_class}
use Rattle.source_grammar.specs.Spelled.{class_named}
use Rattle.source_ways.specs.Says.{name_in}
use Rattle.source_ways.specs.Reading.{Reads}
use Rattle.rust_printer.specs.Tok.{is_place}

-- an identifier has the class of the name that it says, and digits say digits
abbrev pub IsLexeme : Lexeme → Type 0
IsLexeme l = (has_class T.Identifier l.class ≡ true → class_named (name_in l.content) C.Other ≡ l.class) × (has_class T.Digits l.class ≡ true → is_place (name_in l.content) ≡ true)

abbrev pub AreLexemes : List Lexeme → Type 0
AreLexemes [] = Unit {0}
AreLexemes (l ∷ ls) = IsLexeme l × AreLexemes ls

abbrev pub IsRead : Program → Type 0
IsRead program = (ls : List Lexeme) × (AreLexemes ls × Reads ls program)
