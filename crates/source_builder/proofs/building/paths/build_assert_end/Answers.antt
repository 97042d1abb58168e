-- What `build_assert_end` calls builds the part. Written by tools/source_build.py.
use Rattle.std.proofs.Common.{reverse, Ok}
use Rattle.source_grammar.specs.declared.part.Part.TheVariants as N
use Rattle.source_builder.proofs.Places.{at_place, built_at_place}
use Rattle.source_builder.proofs.building.paths.build_assert_end.Goals as goal

pub message_0-requires : goal.message_0-requires
message_0-requires c =
    let h = at_place N.AssertEnd c.args.index 0 (reverse c.args.values.now) c.in-0.is c.requires in
    record { value = h.value; below = h.below; makes = h.makes }

pub returns-in-0 : goal.returns-in-0
returns-in-0 c =
    built_at_place N.AssertEnd c.args.index 0 (reverse c.args.values.now) (reverse c.message_0.new.values) (Ok c.message_0.result) c.in-0.is c.message_0.ensures

pub returns-in-1 : goal.returns-in-1
returns-in-1 c =
    built_at_place N.AssertEnd c.args.index 1 (reverse c.args.values.now) (reverse c.assert_end_1.new.values) (Ok c.assert_end_1.result) c.in-1.is c.assert_end_1.ensures
