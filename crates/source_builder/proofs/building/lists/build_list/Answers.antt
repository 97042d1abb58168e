-- What `build_list` calls builds the part. Written by tools/source_build.py.
use Rattle.std.proofs.Common.{reverse, Ok}
use Rattle.source_grammar.specs.declared.part.Part.TheVariants as N
use Rattle.source_builder.proofs.Places.{built_at_place}
use Rattle.source_builder.proofs.building.lists.build_list.Goals as goal

pub returns-in-0 : goal.returns-in-0
returns-in-0 c =
    built_at_place (N.List c.args.listed) c.args.index 0 (reverse c.args.values.now) (reverse c.list_end.new.values) (Ok c.list_end.result) c.in-0.is c.list_end.ensures

pub returns-in-1 : goal.returns-in-1
returns-in-1 c =
    built_at_place (N.List c.args.listed) c.args.index 1 (reverse c.args.values.now) (reverse c.list_item.new.values) c.list_item.result c.in-1.is c.list_item.ensures
