use Rattle.std.proofs.Common.{arith}
use Rattle.type_forms.proofs.Naming.{pat_item, field_item}
use Rattle.type_forms.proofs.names.+naming.Goals as goal

pub put_all-put_names-requires : goal.put_all-put_names-requires
put_all-put_names-requires t c =
    let h = pat_item c.args.parts.now c.loop-part.part-index c.part-item.result (omega arith) c.part-item.is in
    (omega (arith, h), tt)

pub put_fields-put_names-requires : goal.put_fields-put_names-requires
put_fields-put_names-requires t c =
    let h = field_item c.args.fields.now c.loop-field.field-index c.field-item.result (omega arith) c.field-item.is in
    (omega (arith, h), tt)
