-- What `build_generics` calls builds the part. Written by tools/source_build.py.
use Rattle.std.proofs.Common.{reverse, Ok}
use Rattle.source_grammar.specs.declared.part.Part.TheVariants as N
use Rattle.source_builder.proofs.Places.{built_at_place}
use Rattle.source_builder.proofs.building.items.build_generics.Goals as goal

pub returns-in-0 : goal.returns-in-0
returns-in-0 c =
    built_at_place N.Generics c.args.index 0 (reverse c.args.values.now) (reverse c.generics_0.new.values) (Ok c.generics_0.result) c.in-0.is c.generics_0.ensures

pub returns-in-1 : goal.returns-in-1
returns-in-1 c =
    built_at_place N.Generics c.args.index 1 (reverse c.args.values.now) (reverse c.generics_1.new.values) (Ok c.generics_1.result) c.in-1.is c.generics_1.ensures
