-- The words before this place are the values so far.
use Rattle.std.proofs.Common.{take, map}
use Rattle.std.specs.String.{string_bytes}
use Rattle.text_words.specs.ValueWords.{AreWords}
use Rattle.text_words.proofs.arguments.read_values.Given as goal

abbrev pub invariant-loop-place : goal.invariant-loop-place
invariant-loop-place l = AreWords l.defs (take l.place l.types) (take l.place (map string_bytes l.words)) l.values
