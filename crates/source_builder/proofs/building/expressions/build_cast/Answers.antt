-- What `build_cast` calls builds the part. Written by tools/source_build.py.
use Rattle.std.proofs.Common.{reverse}
use Rattle.source_grammar.specs.declared.part.Part.TheVariants as N
use Rattle.source_builder.proofs.Places.{at_place, built_at_place}
use Rattle.source_builder.proofs.building.expressions.build_cast.Goals as goal

pub leading_cast_0-requires : goal.leading_cast_0-requires
leading_cast_0-requires c =
    let h = at_place (N.Cast c.args.context) c.args.index 0 (reverse c.args.values.now) c.in-0.is c.requires in
    record { value = h.value; below = h.below; makes = h.makes }

pub returns : goal.returns
returns c =
    built_at_place (N.Cast c.args.context) c.args.index 0 (reverse c.args.values.now) (reverse c.leading_cast_0.new.values) c.leading_cast_0.result c.in-0.is c.leading_cast_0.ensures
