-- What `build_variant_end` calls builds the part. Written by tools/text_ways.py.
use Rattle.std.proofs.Common.{reverse}
use Rattle.text_table.specs.declared.part.Part.TheVariants as N
use Rattle.raw_reader.proofs.Places.{built_at_place}
use Rattle.raw_reader.proofs.building.declarations.build_variant_end.Goals as goal

pub returns-in-0 : goal.returns-in-0
returns-in-0 c =
    built_at_place N.VariantEnd c.args.index 0 (reverse c.args.values.now) (reverse c.variant_end_0.new.values) c.variant_end_0.result c.in-0.is c.variant_end_0.ensures

pub returns-in-1 : goal.returns-in-1
returns-in-1 c =
    built_at_place N.VariantEnd c.args.index 1 (reverse c.args.values.now) (reverse c.variant_end_1.new.values) c.variant_end_1.result c.in-1.is c.variant_end_1.ensures

pub returns-in-2 : goal.returns-in-2
returns-in-2 c =
    built_at_place N.VariantEnd c.args.index 2 (reverse c.args.values.now) (reverse c.variant_end_2.new.values) c.variant_end_2.result c.in-2.is c.variant_end_2.ensures
