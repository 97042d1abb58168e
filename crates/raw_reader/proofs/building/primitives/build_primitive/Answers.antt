-- What `build_primitive` calls builds the part. Written by tools/text_ways.py.
use Rattle.std.proofs.Common.{reverse, Ok}
use Rattle.text_table.specs.declared.part.Part.TheVariants as N
use Rattle.raw_reader.proofs.Places.{at_place, built_at_place}
use Rattle.raw_reader.proofs.building.primitives.build_primitive.Goals as goal

pub returns-in-0 : goal.returns-in-0
returns-in-0 c =
    built_at_place N.Primitive c.args.index 0 (reverse c.args.values.now) (reverse c.primitive_0.new.values) (Ok c.primitive_0.result) c.in-0.is c.primitive_0.ensures

pub returns-in-1 : goal.returns-in-1
returns-in-1 c =
    built_at_place N.Primitive c.args.index 1 (reverse c.args.values.now) (reverse c.primitive_1.new.values) (Ok c.primitive_1.result) c.in-1.is c.primitive_1.ensures

pub returns-in-2 : goal.returns-in-2
returns-in-2 c =
    built_at_place N.Primitive c.args.index 2 (reverse c.args.values.now) (reverse c.primitive_2.new.values) (Ok c.primitive_2.result) c.in-2.is c.primitive_2.ensures

pub returns-in-3 : goal.returns-in-3
returns-in-3 c =
    built_at_place N.Primitive c.args.index 3 (reverse c.args.values.now) (reverse c.primitive_3.new.values) (Ok c.primitive_3.result) c.in-3.is c.primitive_3.ensures

pub primitive_2-requires-in-4 : goal.primitive_2-requires-in-4
primitive_2-requires-in-4 c =
    let h = at_place N.Primitive c.args.index 4 (reverse c.args.values.now) c.in-4.is c.requires in
    record { value = h.value; below = h.below; makes = h.makes }

pub returns-in-4 : goal.returns-in-4
returns-in-4 c =
    built_at_place N.Primitive c.args.index 4 (reverse c.args.values.now) (reverse c.primitive_2-in-4.new.values) (Ok c.primitive_2-in-4.result) c.in-4.is c.primitive_2-in-4.ensures
