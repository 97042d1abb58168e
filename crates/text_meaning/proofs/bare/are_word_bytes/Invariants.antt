-- The bytes before this one go on as a word does.
use Rattle.std.proofs.Common.{◌≡◌, drop}
use Rattle.std.specs.List.{list_all}
use Rattle.text_meaning.specs.Names.{is_word_byte}
use Rattle.text_meaning.proofs.bare.are_word_bytes.Given as goal

abbrev pub invariant-loop-byte : goal.invariant-loop-byte
invariant-loop-byte l = list_all is_word_byte (drop l.byte-index l.bytes) ≡ list_all is_word_byte l.bytes
