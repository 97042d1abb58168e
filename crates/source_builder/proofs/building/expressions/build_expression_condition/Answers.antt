-- What `build_expression_condition` calls builds the part. Written by tools/source_build.py.
use Rattle.std.proofs.Common.{reverse, Ok}
use Rattle.source_grammar.specs.declared.part.Part.TheVariants as N
use Rattle.source_grammar.specs.declared.part.Context.TheVariants as At
use Rattle.source_builder.proofs.Places.{at_place, built_at_place}
use Rattle.source_builder.proofs.building.expressions.build_expression_condition.Goals as goal

pub expression_condition_0-requires : goal.expression_condition_0-requires
expression_condition_0-requires c =
    let h = at_place (N.Expression At.Condition) c.args.index 0 (reverse c.args.values.now) c.in-0.is c.requires in
    record { value = h.value; below = h.below; makes = h.makes }

pub returns-in-0 : goal.returns-in-0
returns-in-0 c =
    built_at_place (N.Expression At.Condition) c.args.index 0 (reverse c.args.values.now) (reverse c.expression_condition_0.new.values) c.expression_condition_0.result c.in-0.is c.expression_condition_0.ensures

pub expression_condition_1-requires : goal.expression_condition_1-requires
expression_condition_1-requires c =
    let h = at_place (N.Expression At.Condition) c.args.index 1 (reverse c.args.values.now) c.in-1.is c.requires in
    record { value = h.value; below = h.below; makes = h.makes }

pub returns-in-1 : goal.returns-in-1
returns-in-1 c =
    built_at_place (N.Expression At.Condition) c.args.index 1 (reverse c.args.values.now) (reverse c.expression_condition_1.new.values) c.expression_condition_1.result c.in-1.is c.expression_condition_1.ensures

pub leading_expression_2-requires : goal.leading_expression_2-requires
leading_expression_2-requires c =
    let h = at_place (N.Expression At.Condition) c.args.index 2 (reverse c.args.values.now) c.in-2.is c.requires in
    record { value = h.value; below = h.below; makes = h.makes }

pub returns-in-2 : goal.returns-in-2
returns-in-2 c =
    built_at_place (N.Expression At.Condition) c.args.index 2 (reverse c.args.values.now) (reverse c.leading_expression_2.new.values) (Ok c.leading_expression_2.result) c.in-2.is c.leading_expression_2.ensures

pub leading_expression_3-requires : goal.leading_expression_3-requires
leading_expression_3-requires c =
    let h = at_place (N.Expression At.Condition) c.args.index 3 (reverse c.args.values.now) c.in-3.is c.requires in
    record { value = h.value; below = h.below; makes = h.makes }

pub returns-in-3 : goal.returns-in-3
returns-in-3 c =
    built_at_place (N.Expression At.Condition) c.args.index 3 (reverse c.args.values.now) (reverse c.leading_expression_3.new.values) c.leading_expression_3.result c.in-3.is c.leading_expression_3.ensures
