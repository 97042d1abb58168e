-- The text of a program that was read is read as the same program.
use Rattle.std.proofs.Common.{ℕ, List, None}
use Rattle.rust_ast.specs.declared.program.Program.{Program}
use Rattle.source_grammar.specs.declared.lexeme.Lexeme.{Lexeme}
use Rattle.source_syntax.specs.Spelled.{lexemes}
use Rattle.source_ways.specs.Reading.{Reads}
use Rattle.rust_printer.specs.Bare.{Same}
use Rattle.rust_printer.specs.Laid.{Laid}
use Rattle.rust_printer.specs.ReadFrom.{IsRead}
use Rattle.rust_printer.specs.Tok.{spelled}
use Rattle.rust_printer.specs.Tokens.{program_tokens}
use Rattle.print_lexed.specs.Read.{IsReadFrom}
use Rattle.print_lexed.proofs.Sequences.{text_lexed}
use Rattle.print_lexed.proofs.LexedItems.{items_lexed}
use Rattle.print_lexed.proofs.KeptReading.{read_proper}
use Rattle.print_lexed.proofs.TextLexemes.{all_proper}

-- lexemes of the program's tokens are read as it
abbrev pub IsReadBack : Program → Type 0
IsReadBack program = IsRead program → (ls : List Lexeme) → Laid 0 (program_tokens program) ls → (q : Program) × (Reads ls q × Same q program)

pub printed : (program : Program) → IsReadBack program → (source : List ℕ) → IsReadFrom source program → (q : Program) × (IsReadFrom (spelled (program_tokens program)) q × Same q program)
printed program back source r =
    let proper = all_proper source r.0 r.1.0 in
    let x = text_lexed (program_tokens program) (items_lexed program.items (read_proper (lexemes source None r.0) program proper.0 r.1.1)) in
    let q = back (lexemes source None r.0, (proper.1, r.1.1)) (lexemes (spelled (program_tokens program)) None x.tokens) x.laid in
    (q.0, ((x.tokens, (x.lexes, q.1.0)), q.1.1))
