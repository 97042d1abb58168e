use Rattle.std.proofs.Common.{◌≡◌, ◌+◌, drop, length}
use Rattle.rust_lex.specs.Characters.{front}
use Rattle.rust_lex.specs.Numbers.{goes_on}
use Rattle.rust_lex.proofs.numbers.digits_length.Given as goal

abbrev pub invariant-loop-c : goal.invariant-loop-c
invariant-loop-c l = (l.count ≡ l.c-index) × (l.count + length (front (goes_on l.base) (drop l.c-index l.bytes)) ≡ length (front (goes_on l.base) l.bytes))
