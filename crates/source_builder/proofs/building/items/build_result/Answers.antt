-- What `build_result` calls builds the part. Written by tools/source_build.py.
use Rattle.std.proofs.Common.{reverse, Ok}
use Rattle.source_grammar.specs.declared.part.Part.TheVariants as N
use Rattle.source_builder.proofs.Places.{built_at_place}
use Rattle.source_builder.proofs.building.items.build_result.Goals as goal

pub returns-in-0 : goal.returns-in-0
returns-in-0 c =
    built_at_place N.Result c.args.index 0 (reverse c.args.values.now) (reverse c.result_0.new.values) (Ok c.result_0.result) c.in-0.is c.result_0.ensures

pub returns-in-1 : goal.returns-in-1
returns-in-1 c =
    built_at_place N.Result c.args.index 1 (reverse c.args.values.now) (reverse c.result_1.new.values) (Ok c.result_1.result) c.in-1.is c.result_1.ensures
