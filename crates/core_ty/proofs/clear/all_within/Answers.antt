use Rattle.std.proofs.lemmas.List.Elements.{All-more}
use Rattle.core_ty.specs.Ranks.{IsWithin}
use Rattle.core_ty.specs.declared.parts.Part.TheVariants.{Parameter}
use Rattle.core_ty.proofs.clear.all_within.Goals as goal

pub loop-part-preserved : goal.loop-part-preserved
loop-part-preserved c =
    All-more (IsWithin c.args.ranks.now c.args.top) c.args.parts.now c.loop-part.part-index (Parameter 0) c.loop-part-test.true c.loop-part.invariant
    (c.is_within.ensures.0 c.if-not-is_within.false)
