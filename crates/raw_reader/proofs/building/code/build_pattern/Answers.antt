-- What `build_pattern` calls builds the part. Written by tools/text_ways.py.
use Rattle.std.proofs.Common.{reverse}
use Rattle.text_table.specs.declared.part.Part.TheVariants as N
use Rattle.raw_reader.proofs.Places.{built_at_place}
use Rattle.raw_reader.proofs.building.code.build_pattern.Goals as goal

pub returns-in-0 : goal.returns-in-0
returns-in-0 c =
    built_at_place N.Pattern c.args.index 0 (reverse c.args.values.now) (reverse c.pattern_0.new.values) c.pattern_0.result c.in-0.is c.pattern_0.ensures

pub returns-in-1 : goal.returns-in-1
returns-in-1 c =
    built_at_place N.Pattern c.args.index 1 (reverse c.args.values.now) (reverse c.pattern_1.new.values) c.pattern_1.result c.in-1.is c.pattern_1.ensures

pub returns-in-2 : goal.returns-in-2
returns-in-2 c =
    built_at_place N.Pattern c.args.index 2 (reverse c.args.values.now) (reverse c.pattern_2.new.values) c.pattern_2.result c.in-2.is c.pattern_2.ensures
