-- What is left of the piece and of the text decide.
use Rattle.std.proofs.Common.{◌≡◌, drop}
use Rattle.text_words.specs.Pieces as spec
use Rattle.text_words.proofs.naming_words.after.Given as goal

abbrev pub invariant-loop-byte : goal.invariant-loop-byte
invariant-loop-byte l = spec.after (drop l.byte-index l.piece) l.rest ≡ spec.after l.piece l.text
