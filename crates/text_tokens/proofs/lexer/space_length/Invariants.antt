use Rattle.std.proofs.Common.{◌≡◌, ◌+◌, drop, length}
use Rattle.text_meaning.specs.Lexing.{is_space}
use Rattle.text_tokens.specs.Fronts.{front}
use Rattle.text_tokens.proofs.lexer.space_length.Given as goal

abbrev pub invariant-loop-c : goal.invariant-loop-c
invariant-loop-c l = (l.count ≡ l.c-index) × (l.count + length (front is_space (drop l.c-index l.bytes)) ≡ length (front is_space l.bytes))
