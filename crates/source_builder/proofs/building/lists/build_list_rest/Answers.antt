-- What `build_list_rest` calls builds the part. Written by tools/source_build.py.
use Rattle.std.proofs.Common.{reverse, Ok}
use Rattle.source_grammar.specs.declared.part.Part.TheVariants as N
use Rattle.source_builder.proofs.Places.{at_place, built_at_place}
use Rattle.source_builder.proofs.building.lists.build_list_rest.Goals as goal

pub list_end-requires : goal.list_end-requires
list_end-requires c =
    let h = at_place (N.ListRest c.args.listed) c.args.index 0 (reverse c.args.values.now) c.in-0.is c.requires in
    record { value = h.value; below = h.below; makes = h.makes }

pub returns-in-0 : goal.returns-in-0
returns-in-0 c =
    built_at_place (N.ListRest c.args.listed) c.args.index 0 (reverse c.args.values.now) (reverse c.list_end.new.values) (Ok c.list_end.result) c.in-0.is c.list_end.ensures

pub returns-in-1 : goal.returns-in-1
returns-in-1 c =
    built_at_place (N.ListRest c.args.listed) c.args.index 1 (reverse c.args.values.now) (reverse c.list_more.new.values) (Ok c.list_more.result) c.in-1.is c.list_more.ensures
