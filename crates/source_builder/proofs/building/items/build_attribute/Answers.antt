-- What `build_attribute` calls builds the part. Written by tools/source_build.py.
use Rattle.std.proofs.Common.{reverse, Ok}
use Rattle.source_grammar.specs.declared.part.Part.TheVariants as N
use Rattle.source_builder.proofs.Places.{built_at_place}
use Rattle.source_builder.proofs.building.items.build_attribute.Goals as goal

pub returns : goal.returns
returns c =
    built_at_place N.Attribute c.args.index 0 (reverse c.args.values.now) (reverse c.attribute_0.new.values) (Ok c.attribute_0.result) c.in-0.is c.attribute_0.ensures
