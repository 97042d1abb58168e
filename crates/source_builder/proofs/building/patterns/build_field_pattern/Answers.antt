-- What `build_field_pattern` calls builds the part. Written by tools/source_build.py.
use Rattle.std.proofs.Common.{reverse}
use Rattle.source_grammar.specs.declared.part.Part.TheVariants as N
use Rattle.source_builder.proofs.Places.{built_at_place}
use Rattle.source_builder.proofs.building.patterns.build_field_pattern.Goals as goal

pub returns : goal.returns
returns c =
    built_at_place N.FieldPattern c.args.index 0 (reverse c.args.values.now) (reverse c.field_pattern_0.new.values) c.field_pattern_0.result c.in-0.is c.field_pattern_0.ensures
