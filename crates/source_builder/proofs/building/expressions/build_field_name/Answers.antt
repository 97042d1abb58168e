-- What `build_field_name` calls builds the part. Written by tools/source_build.py.
use Rattle.std.proofs.Common.{reverse}
use Rattle.source_grammar.specs.declared.part.Part.TheVariants as N
use Rattle.source_builder.proofs.Places.{at_place, built_at_place}
use Rattle.source_builder.proofs.building.expressions.build_field_name.Goals as goal

pub returns-in-0 : goal.returns-in-0
returns-in-0 c =
    built_at_place N.FieldName c.args.index 0 (reverse c.args.values.now) (reverse c.field_name_0.new.values) c.field_name_0.result c.in-0.is c.field_name_0.ensures

pub field_name_0-requires-in-1 : goal.field_name_0-requires-in-1
field_name_0-requires-in-1 c =
    let h = at_place N.FieldName c.args.index 1 (reverse c.args.values.now) c.in-1.is c.requires in
    record { value = h.value; below = h.below; makes = h.makes }

pub returns-in-1 : goal.returns-in-1
returns-in-1 c =
    built_at_place N.FieldName c.args.index 1 (reverse c.args.values.now) (reverse c.field_name_0-in-1.new.values) c.field_name_0-in-1.result c.in-1.is c.field_name_0-in-1.ensures
