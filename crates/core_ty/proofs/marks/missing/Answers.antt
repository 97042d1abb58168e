use Rattle.std.proofs.lemmas.List.Elements.{All-more}
use Rattle.core_ty.specs.Marks.{IsMarked}
use Rattle.core_ty.specs.declared.parts.Part.TheVariants.{Parameter}
use Rattle.core_ty.proofs.marks.missing.Goals as goal

pub loop-part-preserved : goal.loop-part-preserved
loop-part-preserved c =
    All-more (IsMarked c.args.row.now) c.args.parts.now c.loop-part.part-index (Parameter 0) c.loop-part-test.true c.loop-part.invariant c.in_default.ensures
