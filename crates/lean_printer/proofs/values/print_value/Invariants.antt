-- What is printed and what is pending are the whole, and less is pending each turn.
use Rattle.std.proofs.Common.{◌≡◌, ◌++◌, string_bytes}
use Rattle.text_meaning.specs.ShownTerms.{term_text}
use Rattle.text_meaning.specs.ValueTerms.{value_term}
use Rattle.lean_printer.specs.Pieces.{pieces_text, pieces_cost}
use Rattle.lean_printer.proofs.values.print_value.Given as goal

abbrev pub invariant-loop-piece : goal.invariant-loop-piece
invariant-loop-piece l = string_bytes l.out ++ pieces_text l.defs l.stack ≡ term_text l.defs (value_term l.value)

abbrev pub decreases-loop-piece : goal.decreases-loop-piece
decreases-loop-piece l = pieces_cost l.stack
