-- What `build_attributed` calls builds the part. Written by tools/source_build.py.
use Rattle.std.proofs.Common.{reverse}
use Rattle.source_grammar.specs.declared.part.Part.TheVariants as N
use Rattle.source_builder.proofs.Places.{built_at_place}
use Rattle.source_builder.proofs.building.items.build_attributed.Goals as goal

pub returns-in-0 : goal.returns-in-0
returns-in-0 c =
    built_at_place N.Attributed c.args.index 0 (reverse c.args.values.now) (reverse c.attributed_0.new.values) c.attributed_0.result c.in-0.is c.attributed_0.ensures

pub returns-in-1 : goal.returns-in-1
returns-in-1 c =
    built_at_place N.Attributed c.args.index 1 (reverse c.args.values.now) (reverse c.attributed_1.new.values) c.attributed_1.result c.in-1.is c.attributed_1.ensures

pub returns-in-2 : goal.returns-in-2
returns-in-2 c =
    built_at_place N.Attributed c.args.index 2 (reverse c.args.values.now) (reverse c.attributed_2.new.values) c.attributed_2.result c.in-2.is c.attributed_2.ensures
