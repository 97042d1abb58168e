-- What is left of the prefix stands before what is left of the word.
use Rattle.std.proofs.Common.{◌≡◌, drop}
use Rattle.raw_meaning.specs.Numbers.{numbered}
use Rattle.text_names.proofs.numbered.after_prefix.Given as goal

abbrev pub invariant-loop-byte : goal.invariant-loop-byte
invariant-loop-byte l = numbered (drop l.byte-index l.prefix) l.left ≡ numbered l.prefix l.word
