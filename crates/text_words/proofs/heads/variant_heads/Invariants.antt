-- What is made so far.
use Rattle.std.proofs.Common.{◌≡◌, take, map}
use Rattle.raw_meaning.specs.Heads.{head_of_variant}
use Rattle.text_words.proofs.heads.variant_heads.Given as goal

abbrev pub invariant-loop-variant : goal.invariant-loop-variant
invariant-loop-variant l = l.heads ≡ map head_of_variant (take l.variant-index l.variants)
