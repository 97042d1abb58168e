-- What `build_back_end` calls builds the part. Written by tools/text_ways.py.
use Rattle.std.proofs.Common.{reverse}
use Rattle.text_table.specs.declared.part.Part.TheVariants as N
use Rattle.raw_reader.proofs.Places.{built_at_place}
use Rattle.raw_reader.proofs.building.definitions.build_back_end.Goals as goal

pub returns-in-0 : goal.returns-in-0
returns-in-0 c =
    built_at_place N.BackEnd c.args.index 0 (reverse c.args.values.now) (reverse c.back_end_0.new.values) c.back_end_0.result c.in-0.is c.back_end_0.ensures

pub returns-in-1 : goal.returns-in-1
returns-in-1 c =
    built_at_place N.BackEnd c.args.index 1 (reverse c.args.values.now) (reverse c.back_end_1.new.values) c.back_end_1.result c.in-1.is c.back_end_1.ensures
