use Rattle.type_cover.proofs.CellRows.{fields_more}
use Rattle.type_cover.proofs.types.field_types.Goals as goal

pub loop-field-preserved : goal.loop-field-preserved
loop-field-preserved c =
    fields_more c.args.args.now c.loop-field.types c.push.new.self c.args.fields.now c.loop-field.field-index c.field-item.result c.in_ok-subst.field-0
    c.loop-field-test.true c.field-item.is c.in_ok-push.ensures.ok c.in_ok-subst.ensures c.loop-field.invariant
