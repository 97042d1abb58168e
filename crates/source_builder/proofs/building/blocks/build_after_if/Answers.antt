-- What `build_after_if` calls builds the part. Written by tools/source_build.py.
use Rattle.std.proofs.Common.{reverse}
use Rattle.source_grammar.specs.declared.part.Part.TheVariants as N
use Rattle.source_builder.proofs.Places.{built_at_place}
use Rattle.source_builder.proofs.building.blocks.build_after_if.Goals as goal

pub returns-in-0 : goal.returns-in-0
returns-in-0 c =
    built_at_place N.AfterIf c.args.index 0 (reverse c.args.values.now) (reverse c.after_if_0.new.values) c.after_if_0.result c.in-0.is c.after_if_0.ensures

pub returns-in-1 : goal.returns-in-1
returns-in-1 c =
    built_at_place N.AfterIf c.args.index 1 (reverse c.args.values.now) (reverse c.after_if_1.new.values) c.after_if_1.result c.in-1.is c.after_if_1.ensures
