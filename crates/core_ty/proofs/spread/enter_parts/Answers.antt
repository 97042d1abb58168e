use Rattle.core_ty.specs.Spread.{IsHeld}
use Rattle.core_ty.proofs.Spreading.{pushed, part_held}
use Rattle.core_ty.proofs.spread.enter_parts.Goals as goal

pub loop-part-preserved : goal.loop-part-preserved
loop-part-preserved c ds holds all =
    pushed (IsHeld ds) c.loop-part.held c.push.new.self _ c.in_ok-push.ensures.ok
    (part_held ds c.args.user c.args.parts.now c.loop-part.part-index c.part-item.result c.loop-part-test.true c.part-item.is holds)
    (c.loop-part.invariant ds holds all)
