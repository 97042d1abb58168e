use Rattle.std.proofs.Common.{arith}
use Rattle.name_tables.specs.NodeLemmas.{pat_item, field_item}
use Rattle.name_clashes.proofs.bindings.+bindings.Goals as goal

pub bindings_all-bindings-requires : goal.bindings_all-bindings-requires
bindings_all-bindings-requires t c =
    let h = pat_item c.args.pats.now c.loop-i.i c.index-pats-i.result (omega arith) c.index-pats-i.is in
    (omega (arith, h), tt)

pub bindings_fields-bindings_field-requires : goal.bindings_fields-bindings_field-requires
bindings_fields-bindings_field-requires t c =
    let h = field_item c.args.fields.now c.loop-i.i c.index-fields-i.result (omega arith) c.index-fields-i.is in
    (omega (arith, h), tt)
