-- What `build_item` calls builds the part. Written by tools/source_build.py.
use Rattle.std.proofs.Common.{reverse}
use Rattle.source_grammar.specs.declared.part.Part.TheVariants as N
use Rattle.source_builder.proofs.Places.{at_place, built_at_place}
use Rattle.source_builder.proofs.building.items.build_item.Goals as goal

pub attributed_1-requires : goal.attributed_1-requires
attributed_1-requires c =
    let h = at_place N.Item c.args.index 0 (reverse c.args.values.now) c.in-0.is c.requires in
    record { value = h.value; below = h.below; makes = h.makes }

pub returns-in-0 : goal.returns-in-0
returns-in-0 c =
    built_at_place N.Item c.args.index 0 (reverse c.args.values.now) (reverse c.attributed_1.new.values) c.attributed_1.result c.in-0.is c.attributed_1.ensures

pub attributed_2-requires : goal.attributed_2-requires
attributed_2-requires c =
    let h = at_place N.Item c.args.index 1 (reverse c.args.values.now) c.in-1.is c.requires in
    record { value = h.value; below = h.below; makes = h.makes }

pub returns-in-1 : goal.returns-in-1
returns-in-1 c =
    built_at_place N.Item c.args.index 1 (reverse c.args.values.now) (reverse c.attributed_2.new.values) c.attributed_2.result c.in-1.is c.attributed_2.ensures

pub returns-in-2 : goal.returns-in-2
returns-in-2 c =
    built_at_place N.Item c.args.index 2 (reverse c.args.values.now) (reverse c.item_2.new.values) c.item_2.result c.in-2.is c.item_2.ensures
