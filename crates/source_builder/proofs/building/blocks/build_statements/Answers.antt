-- What `build_statements` calls builds the part. Written by tools/source_build.py.
use Rattle.std.proofs.Common.{reverse, Ok}
use Rattle.source_grammar.specs.declared.part.Part.TheVariants as N
use Rattle.source_builder.proofs.Places.{built_at_place}
use Rattle.source_builder.proofs.building.blocks.build_statements.Goals as goal

pub returns-in-0 : goal.returns-in-0
returns-in-0 c =
    built_at_place N.Statements c.args.index 0 (reverse c.args.values.now) (reverse c.statements_0.new.values) (Ok c.statements_0.result) c.in-0.is c.statements_0.ensures

pub returns-in-1 : goal.returns-in-1
returns-in-1 c =
    built_at_place N.Statements c.args.index 1 (reverse c.args.values.now) (reverse c.statements_1.new.values) (Ok c.statements_1.result) c.in-1.is c.statements_1.ensures
