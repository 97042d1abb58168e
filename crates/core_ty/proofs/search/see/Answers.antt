use Rattle.core_ty.specs.Marks.{IsSeen}
use Rattle.core_ty.specs.declared.parts.Part.TheVariants.{Parameter}
use Rattle.core_ty.proofs.Reaching.{sees, all_taken}
use Rattle.core_ty.proofs.search.see.Goals as goal

pub loop-part-preserved : goal.loop-part-preserved
loop-part-preserved c =
    sees c.args.seen.now c.loop-part.seen c.see_part.new.seen c.args.parts.now c.loop-part.part-index (Parameter 0) c.loop-part-test.true
    c.loop-part.invariant c.see_part.ensures.same c.see_part.ensures.kept c.see_part.ensures.here c.see_part.ensures.from

pub returns : goal.returns
returns c = record {
  same = c.loop-part.invariant.0;
  kept = c.loop-part.invariant.1;
  all = all_taken (IsSeen c.loop-part.seen) c.args.parts.now c.loop-part.part-index c.loop-part-test.false c.loop-part.invariant.2;
  from = c.loop-part.invariant.3;
}
