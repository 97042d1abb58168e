use Rattle.std.proofs.Common.{◌≡◌, map, take}
use Rattle.std.specs.Prelude.{Some}
use Rattle.std.specs.String.{string_bytes}
use Rattle.call_frame.specs.Written.{word_value}
use Rattle.call_frame.proofs.words.values.Given as goal

abbrev pub invariant-loop-word : goal.invariant-loop-word
invariant-loop-word l = record {
  place : l.place ≡ l.word-index;
  read : map word_value (take l.word-index (map string_bytes l.words)) ≡ map Some l.values;
}
