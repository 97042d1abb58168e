use Rattle.std.proofs.Common.{◌≡◌, ◌++◌, drop}
use Rattle.std.specs.String.{string_bytes}
use Rattle.text_meaning.specs.Names.{is_word_byte}
use Rattle.text_tokens.specs.Fronts.{front}
use Rattle.text_tokens.proofs.lexer.word_front.Given as goal

abbrev pub invariant-loop-c : goal.invariant-loop-c
invariant-loop-c l = string_bytes l.text ++ front is_word_byte (drop l.c-index l.bytes) ≡ front is_word_byte l.bytes
