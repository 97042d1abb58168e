-- What `build_after_assert` calls builds the part. Written by tools/source_build.py.
use Rattle.std.proofs.Common.{reverse, Ok}
use Rattle.source_grammar.specs.declared.part.Part.TheVariants as N
use Rattle.source_builder.proofs.Places.{at_place, built_at_place}
use Rattle.source_builder.proofs.building.paths.build_after_assert.Goals as goal

pub after_name_free_0-requires : goal.after_name_free_0-requires
after_name_free_0-requires c =
    let h = at_place (N.AfterAssert c.args.context) c.args.index 0 (reverse c.args.values.now) c.in-0.is c.requires in
    record { value = h.value; below = h.below; makes = h.makes }

pub returns-in-0 : goal.returns-in-0
returns-in-0 c =
    built_at_place (N.AfterAssert c.args.context) c.args.index 0 (reverse c.args.values.now) (reverse c.after_name_free_0.new.values) (Ok c.after_name_free_0.result) c.in-0.is c.after_name_free_0.ensures

pub after_name_free_1-requires : goal.after_name_free_1-requires
after_name_free_1-requires c =
    let h = at_place (N.AfterAssert c.args.context) c.args.index 1 (reverse c.args.values.now) c.in-1.is c.requires in
    record { value = h.value; below = h.below; makes = h.makes }

pub returns-in-1 : goal.returns-in-1
returns-in-1 c =
    built_at_place (N.AfterAssert c.args.context) c.args.index 1 (reverse c.args.values.now) (reverse c.after_name_free_1.new.values) (Ok c.after_name_free_1.result) c.in-1.is c.after_name_free_1.ensures

pub after_assert_free_2-requires : goal.after_assert_free_2-requires
after_assert_free_2-requires c =
    let h = at_place (N.AfterAssert c.args.context) c.args.index 2 (reverse c.args.values.now) c.in-2.is c.requires in
    record { value = h.value; below = h.below; makes = h.makes }

pub returns-in-2 : goal.returns-in-2
returns-in-2 c =
    built_at_place (N.AfterAssert c.args.context) c.args.index 2 (reverse c.args.values.now) (reverse c.after_assert_free_2.new.values) (Ok c.after_assert_free_2.result) c.in-2.is c.after_assert_free_2.ensures
