-- What `build_leading_level` calls builds the part. Written by tools/source_build.py.
use Rattle.std.proofs.Common.{reverse}
use Rattle.source_grammar.specs.declared.part.Part.TheVariants as N
use Rattle.source_builder.proofs.Levels as levels
use Rattle.source_builder.proofs.Places.{at_place, built_at_place}
use Rattle.source_builder.proofs.building.expressions.build_leading_level.Goals as goal

pub leading_expression_3-requires : goal.leading_expression_3-requires
leading_expression_3-requires c =
    levels.leading_level c.args.level (reverse c.args.values.now) (at_place (N.LeadingLevel c.args.level) c.args.index 0 (reverse c.args.values.now) c.in-0.is c.requires)

pub returns : goal.returns
returns c =
    built_at_place (N.LeadingLevel c.args.level) c.args.index 0 (reverse c.args.values.now) (reverse c.leading_expression_3.new.values) c.leading_expression_3.result c.in-0.is (levels.leading_level_built c.args.level (reverse c.args.values.now) (reverse c.leading_expression_3.new.values) c.leading_expression_3.result c.leading_expression_3.ensures)
