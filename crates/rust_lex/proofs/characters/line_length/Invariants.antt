use Rattle.std.proofs.Common.{◌≡◌, ◌+◌, drop, length}
use Rattle.rust_lex.specs.Characters.{front, in_line}
use Rattle.rust_lex.proofs.characters.line_length.Given as goal

abbrev pub invariant-loop-c : goal.invariant-loop-c
invariant-loop-c l = (l.count ≡ l.c-index) × (l.count + length (front in_line (drop l.c-index l.bytes)) ≡ length (front in_line l.bytes))
