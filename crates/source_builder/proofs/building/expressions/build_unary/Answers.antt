-- What `build_unary` calls builds the part. Written by tools/source_build.py.
use Rattle.std.proofs.Common.{reverse}
use Rattle.source_grammar.specs.declared.part.Part.TheVariants as N
use Rattle.source_builder.proofs.Places.{at_place, built_at_place}
use Rattle.source_builder.proofs.building.expressions.build_unary.Goals as goal

pub leading_unary_0-requires : goal.leading_unary_0-requires
leading_unary_0-requires c =
    let h = at_place (N.Unary c.args.context) c.args.index 0 (reverse c.args.values.now) c.in-0.is c.requires in
    record { value = h.value; below = h.below; makes = h.makes }

pub returns-in-0 : goal.returns-in-0
returns-in-0 c =
    built_at_place (N.Unary c.args.context) c.args.index 0 (reverse c.args.values.now) (reverse c.leading_unary_0.new.values) c.leading_unary_0.result c.in-0.is c.leading_unary_0.ensures

pub leading_unary_1-requires : goal.leading_unary_1-requires
leading_unary_1-requires c =
    let h = at_place (N.Unary c.args.context) c.args.index 1 (reverse c.args.values.now) c.in-1.is c.requires in
    record { value = h.value; below = h.below; makes = h.makes }

pub returns-in-1 : goal.returns-in-1
returns-in-1 c =
    built_at_place (N.Unary c.args.context) c.args.index 1 (reverse c.args.values.now) (reverse c.leading_unary_1.new.values) c.leading_unary_1.result c.in-1.is c.leading_unary_1.ensures

pub leading_unary_2-requires : goal.leading_unary_2-requires
leading_unary_2-requires c =
    let h = at_place (N.Unary c.args.context) c.args.index 2 (reverse c.args.values.now) c.in-2.is c.requires in
    record { value = h.value; below = h.below; makes = h.makes }

pub returns-in-2 : goal.returns-in-2
returns-in-2 c =
    built_at_place (N.Unary c.args.context) c.args.index 2 (reverse c.args.values.now) (reverse c.leading_unary_2.new.values) c.leading_unary_2.result c.in-2.is c.leading_unary_2.ensures

pub leading_unary_3-requires : goal.leading_unary_3-requires
leading_unary_3-requires c =
    let h = at_place (N.Unary c.args.context) c.args.index 3 (reverse c.args.values.now) c.in-3.is c.requires in
    record { value = h.value; below = h.below; makes = h.makes }

pub returns-in-3 : goal.returns-in-3
returns-in-3 c =
    built_at_place (N.Unary c.args.context) c.args.index 3 (reverse c.args.values.now) (reverse c.leading_unary_3.new.values) c.leading_unary_3.result c.in-3.is c.leading_unary_3.ensures

pub leading_unary_4-requires : goal.leading_unary_4-requires
leading_unary_4-requires c =
    let h = at_place (N.Unary c.args.context) c.args.index 4 (reverse c.args.values.now) c.in-4.is c.requires in
    record { value = h.value; below = h.below; makes = h.makes }

pub returns-in-4 : goal.returns-in-4
returns-in-4 c =
    built_at_place (N.Unary c.args.context) c.args.index 4 (reverse c.args.values.now) (reverse c.leading_unary_4.new.values) c.leading_unary_4.result c.in-4.is c.leading_unary_4.ensures

pub leading_unary_4-requires-in-5 : goal.leading_unary_4-requires-in-5
leading_unary_4-requires-in-5 c =
    let h = at_place (N.Unary c.args.context) c.args.index 5 (reverse c.args.values.now) c.in-5.is c.requires in
    record { value = h.value; below = h.below; makes = h.makes }

pub returns-in-5 : goal.returns-in-5
returns-in-5 c =
    built_at_place (N.Unary c.args.context) c.args.index 5 (reverse c.args.values.now) (reverse c.leading_unary_4-in-5.new.values) c.leading_unary_4-in-5.result c.in-5.is c.leading_unary_4-in-5.ensures
