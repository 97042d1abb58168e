use Rattle.core_ty.specs.Spread.{IsHeld}
use Rattle.core_ty.proofs.Spreading.{pushed, field_held}
use Rattle.core_ty.proofs.spread.enter_fields.Goals as goal

pub loop-field-preserved : goal.loop-field-preserved
loop-field-preserved c ds holds all =
    pushed (IsHeld ds) c.loop-field.held c.push.new.self _ c.in_ok-push.ensures.ok
    (field_held ds c.args.user c.args.fields.now c.loop-field.field-index c.field-item.result c.loop-field-test.true c.field-item.is holds)
    (c.loop-field.invariant ds holds all)
