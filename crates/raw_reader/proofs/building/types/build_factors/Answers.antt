-- What `build_factors` calls builds the part. Written by tools/text_ways.py.
use Rattle.std.proofs.Common.{reverse, Ok}
use Rattle.text_table.specs.declared.part.Part.TheVariants as N
use Rattle.raw_reader.proofs.Places.{at_place, built_at_place}
use Rattle.raw_reader.proofs.building.types.build_factors.Goals as goal

pub type_arguments_0-requires : goal.type_arguments_0-requires
type_arguments_0-requires c =
    let h = at_place N.Factors c.args.index 0 (reverse c.args.values.now) c.in-0.is c.requires in
    record { value = h.value; below = h.below; makes = h.makes }

pub returns-in-0 : goal.returns-in-0
returns-in-0 c =
    built_at_place N.Factors c.args.index 0 (reverse c.args.values.now) (reverse c.type_arguments_0.new.values) (Ok c.type_arguments_0.result) c.in-0.is c.type_arguments_0.ensures

pub returns-in-1 : goal.returns-in-1
returns-in-1 c =
    built_at_place N.Factors c.args.index 1 (reverse c.args.values.now) (reverse c.factors_1.new.values) c.factors_1.result c.in-1.is c.factors_1.ensures
