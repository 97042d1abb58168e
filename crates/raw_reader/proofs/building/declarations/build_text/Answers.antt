-- What `build_text` calls builds the part. Written by tools/text_ways.py.
use Rattle.std.proofs.Common.{reverse}
use Rattle.text_table.specs.declared.part.Part.TheVariants as N
use Rattle.raw_reader.proofs.Places.{built_at_place}
use Rattle.raw_reader.proofs.building.declarations.build_text.Goals as goal

pub returns : goal.returns
returns c =
    built_at_place N.Text c.args.index 0 (reverse c.args.values.now) (reverse c.text_0.new.values) c.text_0.result c.in-0.is c.text_0.ensures
