-- What `build_pattern` calls builds the part. Written by tools/source_build.py.
use Rattle.std.proofs.Common.{reverse, Ok}
use Rattle.source_grammar.specs.declared.part.Part.TheVariants as N
use Rattle.source_builder.proofs.Places.{at_place, built_at_place}
use Rattle.source_builder.proofs.building.patterns.build_pattern.Goals as goal

pub returns-in-0 : goal.returns-in-0
returns-in-0 c =
    built_at_place N.Pattern c.args.index 0 (reverse c.args.values.now) (reverse c.pattern_0.new.values) (Ok c.pattern_0.result) c.in-0.is c.pattern_0.ensures

pub returns-in-1 : goal.returns-in-1
returns-in-1 c =
    built_at_place N.Pattern c.args.index 1 (reverse c.args.values.now) (reverse c.pattern_1.new.values) c.pattern_1.result c.in-1.is c.pattern_1.ensures

pub returns-in-2 : goal.returns-in-2
returns-in-2 c =
    built_at_place N.Pattern c.args.index 2 (reverse c.args.values.now) (reverse c.pattern_2.new.values) (Ok c.pattern_2.result) c.in-2.is c.pattern_2.ensures

pub returns-in-3 : goal.returns-in-3
returns-in-3 c =
    built_at_place N.Pattern c.args.index 3 (reverse c.args.values.now) (reverse c.pattern_3.new.values) (Ok c.pattern_3.result) c.in-3.is c.pattern_3.ensures

pub returns-in-4 : goal.returns-in-4
returns-in-4 c =
    built_at_place N.Pattern c.args.index 4 (reverse c.args.values.now) (reverse c.pattern_4.new.values) (Ok c.pattern_4.result) c.in-4.is c.pattern_4.ensures

pub returns-in-5 : goal.returns-in-5
returns-in-5 c =
    built_at_place N.Pattern c.args.index 5 (reverse c.args.values.now) (reverse c.pattern_5.new.values) (Ok c.pattern_5.result) c.in-5.is c.pattern_5.ensures

pub returns-in-6 : goal.returns-in-6
returns-in-6 c =
    built_at_place N.Pattern c.args.index 6 (reverse c.args.values.now) (reverse c.pattern_6.new.values) c.pattern_6.result c.in-6.is c.pattern_6.ensures

pub pattern_6-requires-in-7 : goal.pattern_6-requires-in-7
pattern_6-requires-in-7 c =
    let h = at_place N.Pattern c.args.index 7 (reverse c.args.values.now) c.in-7.is c.requires in
    record { value = h.value; below = h.below; makes = h.makes }

pub returns-in-7 : goal.returns-in-7
returns-in-7 c =
    built_at_place N.Pattern c.args.index 7 (reverse c.args.values.now) (reverse c.pattern_6-in-7.new.values) c.pattern_6-in-7.result c.in-7.is c.pattern_6-in-7.ensures

pub pattern_6-requires-in-8 : goal.pattern_6-requires-in-8
pattern_6-requires-in-8 c =
    let h = at_place N.Pattern c.args.index 8 (reverse c.args.values.now) c.in-8.is c.requires in
    record { value = h.value; below = h.below; makes = h.makes }

pub returns-in-8 : goal.returns-in-8
returns-in-8 c =
    built_at_place N.Pattern c.args.index 8 (reverse c.args.values.now) (reverse c.pattern_6-in-8.new.values) c.pattern_6-in-8.result c.in-8.is c.pattern_6-in-8.ensures

pub returns-in-9 : goal.returns-in-9
returns-in-9 c =
    built_at_place N.Pattern c.args.index 9 (reverse c.args.values.now) (reverse c.pattern_9.new.values) (Ok c.pattern_9.result) c.in-9.is c.pattern_9.ensures
