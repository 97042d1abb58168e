-- What `build_lifetimes` calls builds the part. Written by tools/source_build.py.
use Rattle.std.proofs.Common.{reverse, Ok}
use Rattle.source_grammar.specs.declared.part.Part.TheVariants as N
use Rattle.source_builder.proofs.Places.{built_at_place}
use Rattle.source_builder.proofs.building.items.build_lifetimes.Goals as goal

pub returns-in-0 : goal.returns-in-0
returns-in-0 c =
    built_at_place N.Lifetimes c.args.index 0 (reverse c.args.values.now) (reverse c.lifetimes_0.new.values) (Ok c.lifetimes_0.result) c.in-0.is c.lifetimes_0.ensures

pub returns-in-1 : goal.returns-in-1
returns-in-1 c =
    built_at_place N.Lifetimes c.args.index 1 (reverse c.args.values.now) (reverse c.lifetimes_1.new.values) c.lifetimes_1.result c.in-1.is c.lifetimes_1.ensures

pub returns-in-2 : goal.returns-in-2
returns-in-2 c =
    built_at_place N.Lifetimes c.args.index 2 (reverse c.args.values.now) (reverse c.lifetimes_2.new.values) c.lifetimes_2.result c.in-2.is c.lifetimes_2.ensures
