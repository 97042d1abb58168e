-- What `build_items` calls builds the part. Written by tools/source_build.py.
use Rattle.std.proofs.Common.{reverse, Ok}
use Rattle.source_grammar.specs.declared.part.Part.TheVariants as N
use Rattle.source_builder.proofs.Places.{at_place, built_at_place}
use Rattle.source_builder.proofs.building.items.build_items.Goals as goal

pub program_0-requires : goal.program_0-requires
program_0-requires c =
    let h = at_place N.Items c.args.index 0 (reverse c.args.values.now) c.in-0.is c.requires in
    record { value = h.value; below = h.below; makes = h.makes }

pub returns-in-0 : goal.returns-in-0
returns-in-0 c =
    built_at_place N.Items c.args.index 0 (reverse c.args.values.now) (reverse c.program_0.new.values) (Ok c.program_0.result) c.in-0.is c.program_0.ensures

pub returns-in-1 : goal.returns-in-1
returns-in-1 c =
    built_at_place N.Items c.args.index 1 (reverse c.args.values.now) (reverse c.items_1.new.values) c.items_1.result c.in-1.is c.items_1.ensures

pub program_2-requires : goal.program_2-requires
program_2-requires c =
    let h = at_place N.Items c.args.index 2 (reverse c.args.values.now) c.in-2.is c.requires in
    record { value = h.value; below = h.below; makes = h.makes }

pub returns-in-2 : goal.returns-in-2
returns-in-2 c =
    built_at_place N.Items c.args.index 2 (reverse c.args.values.now) (reverse c.program_2.new.values) c.program_2.result c.in-2.is c.program_2.ensures
