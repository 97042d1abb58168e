use Rattle.std.proofs.Common.{◌≡◌, drop}
use Rattle.rust_lex.specs.Numbers.{value_in, radix}
use Rattle.rust_lex.proofs.numbers.value_of.Given as goal

abbrev pub invariant-loop-c : goal.invariant-loop-c
invariant-loop-c l = value_in (radix l.base) l.number (drop l.c-index l.digits) ≡ value_in (radix l.base) 0 l.digits
