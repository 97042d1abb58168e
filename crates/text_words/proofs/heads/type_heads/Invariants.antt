-- What is made so far.
use Rattle.std.proofs.Common.{◌≡◌, take, map}
use Rattle.raw_meaning.specs.Heads.{head_of_type}
use Rattle.text_words.proofs.heads.type_heads.Given as goal

abbrev pub invariant-loop-ty : goal.invariant-loop-ty
invariant-loop-ty l = l.heads ≡ map head_of_type (take l.ty-index l.types)
