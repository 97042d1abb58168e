-- What `build_after_expression` calls builds the part. Written by tools/source_build.py.
use Rattle.std.proofs.Common.{reverse}
use Rattle.source_grammar.specs.declared.part.Part.TheVariants as N
use Rattle.source_builder.proofs.Places.{at_place, built_at_place}
use Rattle.source_builder.proofs.building.blocks.build_after_expression.Goals as goal

pub after_block_like_0-requires : goal.after_block_like_0-requires
after_block_like_0-requires c =
    let h = at_place N.AfterExpression c.args.index 0 (reverse c.args.values.now) c.in-0.is c.requires in
    record { value = h.value; below = h.below; makes = h.makes }

pub returns-in-0 : goal.returns-in-0
returns-in-0 c =
    built_at_place N.AfterExpression c.args.index 0 (reverse c.args.values.now) (reverse c.after_block_like_0.new.values) c.after_block_like_0.result c.in-0.is c.after_block_like_0.ensures

pub returns-in-1 : goal.returns-in-1
returns-in-1 c =
    built_at_place N.AfterExpression c.args.index 1 (reverse c.args.values.now) (reverse c.after_expression_1.new.values) c.after_expression_1.result c.in-1.is c.after_expression_1.ensures
