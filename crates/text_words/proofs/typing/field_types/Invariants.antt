-- The types made so far.
use Rattle.std.proofs.Common.{◌≡◌, take, map}
use Rattle.text_meaning.specs.HasType.{put_in}
use Rattle.text_words.proofs.typing.field_types.Given as goal

abbrev pub invariant-loop-ty : goal.invariant-loop-ty
invariant-loop-ty l = l.all ≡ map (λ f. put_in l.args f.1) (take l.ty-index l.fields)
