-- What `build_leading_cast` calls builds the part. Written by tools/source_build.py.
use Rattle.std.proofs.Common.{reverse}
use Rattle.source_grammar.specs.declared.part.Part.TheVariants as N
use Rattle.source_builder.proofs.Places.{built_at_place}
use Rattle.source_builder.proofs.building.expressions.build_leading_cast.Goals as goal

pub returns : goal.returns
returns c =
    built_at_place N.LeadingCast c.args.index 0 (reverse c.args.values.now) (reverse c.leading_cast_0.new.values) c.leading_cast_0.result c.in-0.is c.leading_cast_0.ensures
