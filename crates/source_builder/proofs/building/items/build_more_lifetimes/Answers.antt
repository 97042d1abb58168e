-- What `build_more_lifetimes` calls builds the part. Written by tools/source_build.py.
use Rattle.std.proofs.Common.{reverse, Ok}
use Rattle.source_grammar.specs.declared.part.Part.TheVariants as N
use Rattle.source_builder.proofs.Places.{at_place, built_at_place}
use Rattle.source_builder.proofs.building.items.build_more_lifetimes.Goals as goal

pub lifetimes_0-requires : goal.lifetimes_0-requires
lifetimes_0-requires c =
    let h = at_place N.MoreLifetimes c.args.index 0 (reverse c.args.values.now) c.in-0.is c.requires in
    record { value = h.value; below = h.below; makes = h.makes }

pub returns-in-0 : goal.returns-in-0
returns-in-0 c =
    built_at_place N.MoreLifetimes c.args.index 0 (reverse c.args.values.now) (reverse c.lifetimes_0.new.values) (Ok c.lifetimes_0.result) c.in-0.is c.lifetimes_0.ensures

pub generics_1-requires : goal.generics_1-requires
generics_1-requires c =
    let h = at_place N.MoreLifetimes c.args.index 1 (reverse c.args.values.now) c.in-1.is c.requires in
    record { value = h.value; below = h.below; makes = h.makes }

pub returns-in-1 : goal.returns-in-1
returns-in-1 c =
    built_at_place N.MoreLifetimes c.args.index 1 (reverse c.args.values.now) (reverse c.generics_1.new.values) (Ok c.generics_1.result) c.in-1.is c.generics_1.ensures
