-- What `build_core` calls builds the part. Written by tools/source_build.py.
use Rattle.std.proofs.Common.{reverse, Ok}
use Rattle.source_grammar.specs.declared.part.Part.TheVariants as N
use Rattle.source_builder.proofs.Places.{at_place, built_at_place}
use Rattle.source_builder.proofs.building.expressions.build_core.Goals as goal

pub core_free_0-requires : goal.core_free_0-requires
core_free_0-requires c =
    let h = at_place (N.Core c.args.context) c.args.index 0 (reverse c.args.values.now) c.in-0.is c.requires in
    record { value = h.value; below = h.below; makes = h.makes }

pub returns-in-0 : goal.returns-in-0
returns-in-0 c =
    built_at_place (N.Core c.args.context) c.args.index 0 (reverse c.args.values.now) (reverse c.core_free_0.new.values) (Ok c.core_free_0.result) c.in-0.is c.core_free_0.ensures

pub core_free_1-requires : goal.core_free_1-requires
core_free_1-requires c =
    let h = at_place (N.Core c.args.context) c.args.index 1 (reverse c.args.values.now) c.in-1.is c.requires in
    record { value = h.value; below = h.below; makes = h.makes }

pub returns-in-1 : goal.returns-in-1
returns-in-1 c =
    built_at_place (N.Core c.args.context) c.args.index 1 (reverse c.args.values.now) (reverse c.core_free_1.new.values) (Ok c.core_free_1.result) c.in-1.is c.core_free_1.ensures

pub core_free_2-requires : goal.core_free_2-requires
core_free_2-requires c =
    let h = at_place (N.Core c.args.context) c.args.index 2 (reverse c.args.values.now) c.in-2.is c.requires in
    record { value = h.value; below = h.below; makes = h.makes }

pub returns-in-2 : goal.returns-in-2
returns-in-2 c =
    built_at_place (N.Core c.args.context) c.args.index 2 (reverse c.args.values.now) (reverse c.core_free_2.new.values) (Ok c.core_free_2.result) c.in-2.is c.core_free_2.ensures

pub core_free_3-requires : goal.core_free_3-requires
core_free_3-requires c =
    let h = at_place (N.Core c.args.context) c.args.index 3 (reverse c.args.values.now) c.in-3.is c.requires in
    record { value = h.value; below = h.below; makes = h.makes }

pub returns-in-3 : goal.returns-in-3
returns-in-3 c =
    built_at_place (N.Core c.args.context) c.args.index 3 (reverse c.args.values.now) (reverse c.core_free_3.new.values) c.core_free_3.result c.in-3.is c.core_free_3.ensures

pub core_free_3-requires-in-4 : goal.core_free_3-requires-in-4
core_free_3-requires-in-4 c =
    let h = at_place (N.Core c.args.context) c.args.index 4 (reverse c.args.values.now) c.in-4.is c.requires in
    record { value = h.value; below = h.below; makes = h.makes }

pub returns-in-4 : goal.returns-in-4
returns-in-4 c =
    built_at_place (N.Core c.args.context) c.args.index 4 (reverse c.args.values.now) (reverse c.core_free_3-in-4.new.values) c.core_free_3-in-4.result c.in-4.is c.core_free_3-in-4.ensures

pub core_free_3-requires-in-5 : goal.core_free_3-requires-in-5
core_free_3-requires-in-5 c =
    let h = at_place (N.Core c.args.context) c.args.index 5 (reverse c.args.values.now) c.in-5.is c.requires in
    record { value = h.value; below = h.below; makes = h.makes }

pub returns-in-5 : goal.returns-in-5
returns-in-5 c =
    built_at_place (N.Core c.args.context) c.args.index 5 (reverse c.args.values.now) (reverse c.core_free_3-in-5.new.values) c.core_free_3-in-5.result c.in-5.is c.core_free_3-in-5.ensures

pub core_free_6-requires : goal.core_free_6-requires
core_free_6-requires c =
    let h = at_place (N.Core c.args.context) c.args.index 6 (reverse c.args.values.now) c.in-6.is c.requires in
    record { value = h.value; below = h.below; makes = h.makes }

pub returns-in-6 : goal.returns-in-6
returns-in-6 c =
    built_at_place (N.Core c.args.context) c.args.index 6 (reverse c.args.values.now) (reverse c.core_free_6.new.values) (Ok c.core_free_6.result) c.in-6.is c.core_free_6.ensures

pub core_free_3-requires-in-7 : goal.core_free_3-requires-in-7
core_free_3-requires-in-7 c =
    let h = at_place (N.Core c.args.context) c.args.index 7 (reverse c.args.values.now) c.in-7.is c.requires in
    record { value = h.value; below = h.below; makes = h.makes }

pub returns-in-7 : goal.returns-in-7
returns-in-7 c =
    built_at_place (N.Core c.args.context) c.args.index 7 (reverse c.args.values.now) (reverse c.core_free_3-in-7.new.values) c.core_free_3-in-7.result c.in-7.is c.core_free_3-in-7.ensures

pub core_free_3-requires-in-8 : goal.core_free_3-requires-in-8
core_free_3-requires-in-8 c =
    let h = at_place (N.Core c.args.context) c.args.index 8 (reverse c.args.values.now) c.in-8.is c.requires in
    record { value = h.value; below = h.below; makes = h.makes }

pub returns-in-8 : goal.returns-in-8
returns-in-8 c =
    built_at_place (N.Core c.args.context) c.args.index 8 (reverse c.args.values.now) (reverse c.core_free_3-in-8.new.values) c.core_free_3-in-8.result c.in-8.is c.core_free_3-in-8.ensures
