-- What is made so far.
use Rattle.std.proofs.Common.{◌≡◌, take, map}
use Rattle.raw_meaning.specs.Outlines.{variant_head}
use Rattle.text_names.proofs.outlining.variant_heads.Given as goal

abbrev pub invariant-loop-variant : goal.invariant-loop-variant
invariant-loop-variant l = l.heads ≡ map variant_head (take l.variant-index l.variants)
