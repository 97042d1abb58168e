-- What is made so far.
use Rattle.std.proofs.Common.{◌≡◌, take, map}
use Rattle.raw_meaning.specs.Outlines.{type_head}
use Rattle.text_names.proofs.outlining.type_heads.Given as goal

abbrev pub invariant-loop-ty : goal.invariant-loop-ty
invariant-loop-ty l = l.heads ≡ map type_head (take l.ty-index l.types)
