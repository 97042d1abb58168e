-- What `build_after_else` calls builds the part. Written by tools/source_build.py.
use Rattle.std.proofs.Common.{reverse, Ok}
use Rattle.source_grammar.specs.declared.part.Part.TheVariants as N
use Rattle.source_builder.proofs.Places.{at_place, built_at_place}
use Rattle.source_builder.proofs.building.blocks.build_after_else.Goals as goal

pub block_like_1-requires : goal.block_like_1-requires
block_like_1-requires c =
    let h = at_place N.AfterElse c.args.index 0 (reverse c.args.values.now) c.in-0.is c.requires in
    record { value = h.value; below = h.below; makes = h.makes }

pub returns-in-0 : goal.returns-in-0
returns-in-0 c =
    built_at_place N.AfterElse c.args.index 0 (reverse c.args.values.now) (reverse c.block_like_1.new.values) (Ok c.block_like_1.result) c.in-0.is c.block_like_1.ensures

pub block_like_0-requires : goal.block_like_0-requires
block_like_0-requires c =
    let h = at_place N.AfterElse c.args.index 1 (reverse c.args.values.now) c.in-1.is c.requires in
    record { value = h.value; below = h.below; makes = h.makes }

pub returns-in-1 : goal.returns-in-1
returns-in-1 c =
    built_at_place N.AfterElse c.args.index 1 (reverse c.args.values.now) (reverse c.block_like_0.new.values) c.block_like_0.result c.in-1.is c.block_like_0.ensures
