-- What is made so far.
use Rattle.std.proofs.Common.{◌≡◌, take, map}
use Rattle.raw_meaning.specs.Heads.{head_of_definition}
use Rattle.text_words.proofs.heads.definition_heads.Given as goal

abbrev pub invariant-loop-definition : goal.invariant-loop-definition
invariant-loop-definition l = l.heads ≡ map head_of_definition (take l.definition-index l.definitions)
