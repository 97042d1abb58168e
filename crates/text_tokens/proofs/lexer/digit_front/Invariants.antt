use Rattle.std.proofs.Common.{◌≡◌, ◌++◌, drop}
use Rattle.std.specs.String.{string_bytes}
use Rattle.std.specs.Char.{is_ascii_digit}
use Rattle.text_tokens.specs.Fronts.{front}
use Rattle.text_tokens.proofs.lexer.digit_front.Given as goal

abbrev pub invariant-loop-c : goal.invariant-loop-c
invariant-loop-c l = string_bytes l.text ++ front is_ascii_digit (drop l.c-index l.bytes) ≡ string_bytes l.fn.text ++ front is_ascii_digit l.bytes
