-- What `build_computation` calls builds the part. Written by tools/text_ways.py.
use Rattle.std.proofs.Common.{reverse}
use Rattle.text_table.specs.declared.part.Part.TheVariants as N
use Rattle.raw_reader.proofs.Places.{built_at_place}
use Rattle.raw_reader.proofs.building.code.build_computation.Goals as goal

pub returns-in-0 : goal.returns-in-0
returns-in-0 c =
    built_at_place N.Computation c.args.index 0 (reverse c.args.values.now) (reverse c.computation_0.new.values) c.computation_0.result c.in-0.is c.computation_0.ensures

pub returns-in-1 : goal.returns-in-1
returns-in-1 c =
    built_at_place N.Computation c.args.index 1 (reverse c.args.values.now) (reverse c.computation_1.new.values) c.computation_1.result c.in-1.is c.computation_1.ensures

pub returns-in-2 : goal.returns-in-2
returns-in-2 c =
    built_at_place N.Computation c.args.index 2 (reverse c.args.values.now) (reverse c.computation_2.new.values) c.computation_2.result c.in-2.is c.computation_2.ensures

pub returns-in-3 : goal.returns-in-3
returns-in-3 c =
    built_at_place N.Computation c.args.index 3 (reverse c.args.values.now) (reverse c.computation_3.new.values) c.computation_3.result c.in-3.is c.computation_3.ensures
