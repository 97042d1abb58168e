use Rattle.std.proofs.Common.{◌≡◌, ◌+◌, drop, length}
use Rattle.std.specs.Char.{is_ascii_digit}
use Rattle.rust_lex.specs.Characters.{front}
use Rattle.rust_lex.proofs.numbers.decimals_length.Given as goal

abbrev pub invariant-loop-c : goal.invariant-loop-c
invariant-loop-c l = (l.count ≡ l.c-index) × (l.count + length (front is_ascii_digit (drop l.c-index l.bytes)) ≡ length (front is_ascii_digit l.bytes))
