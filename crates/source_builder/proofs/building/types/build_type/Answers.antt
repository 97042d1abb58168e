-- What `build_type` calls builds the part. Written by tools/source_build.py.
use Rattle.std.proofs.Common.{reverse, Ok}
use Rattle.source_grammar.specs.declared.part.Part.TheVariants as N
use Rattle.source_builder.proofs.Places.{built_at_place}
use Rattle.source_builder.proofs.building.types.build_type.Goals as goal

pub returns-in-0 : goal.returns-in-0
returns-in-0 c =
    built_at_place N.Type c.args.index 0 (reverse c.args.values.now) (reverse c.type_0.new.values) (Ok c.type_0.result) c.in-0.is c.type_0.ensures

pub returns-in-1 : goal.returns-in-1
returns-in-1 c =
    built_at_place N.Type c.args.index 1 (reverse c.args.values.now) (reverse c.type_1.new.values) (Ok c.type_1.result) c.in-1.is c.type_1.ensures

pub returns-in-2 : goal.returns-in-2
returns-in-2 c =
    built_at_place N.Type c.args.index 2 (reverse c.args.values.now) (reverse c.type_2.new.values) (Ok c.type_2.result) c.in-2.is c.type_2.ensures

pub returns-in-3 : goal.returns-in-3
returns-in-3 c =
    built_at_place N.Type c.args.index 3 (reverse c.args.values.now) (reverse c.type_3.new.values) c.type_3.result c.in-3.is c.type_3.ensures

pub returns-in-4 : goal.returns-in-4
returns-in-4 c =
    built_at_place N.Type c.args.index 4 (reverse c.args.values.now) (reverse c.type_4.new.values) c.type_4.result c.in-4.is c.type_4.ensures

pub returns-in-5 : goal.returns-in-5
returns-in-5 c =
    built_at_place N.Type c.args.index 5 (reverse c.args.values.now) (reverse c.type_5.new.values) c.type_5.result c.in-5.is c.type_5.ensures
