use Rattle.std.proofs.Common.{arith}
use Rattle.type_cover.proofs.Nested.{field_item, part_item}
use Rattle.type_cover.proofs.nesting.+nesting.Goals as goal

pub nesting_all-nesting-requires : goal.nesting_all-nesting-requires
nesting_all-nesting-requires t c =
    let h = part_item c.args.parts.now c.loop-part.part-index c.part-item.result (omega arith) c.part-item.is in
    (omega (arith, h), tt)

pub nesting_fields-nesting-requires : goal.nesting_fields-nesting-requires
nesting_fields-nesting-requires t c =
    let h = field_item c.args.fields.now c.loop-field.field-index c.field-item.result (omega arith) c.field-item.is in
    (omega (arith, h), tt)
