-- What `build_applied_free` calls builds the part. Written by tools/source_build.py.
use Rattle.std.proofs.Common.{reverse, Ok}
use Rattle.source_grammar.specs.declared.part.Part.TheVariants as N
use Rattle.source_grammar.specs.declared.part.Context.TheVariants as At
use Rattle.source_builder.proofs.Places.{at_place, built_at_place}
use Rattle.source_builder.proofs.building.paths.build_applied_free.Goals as goal

pub applied_free_0-requires : goal.applied_free_0-requires
applied_free_0-requires c =
    let h = at_place (N.Applied At.Free) c.args.index 0 (reverse c.args.values.now) c.in-0.is c.requires in
    record { value = h.value; below = h.below; makes = h.makes }

pub returns-in-0 : goal.returns-in-0
returns-in-0 c =
    built_at_place (N.Applied At.Free) c.args.index 0 (reverse c.args.values.now) (reverse c.applied_free_0.new.values) (Ok c.applied_free_0.result) c.in-0.is c.applied_free_0.ensures

pub applied_free_1-requires : goal.applied_free_1-requires
applied_free_1-requires c =
    let h = at_place (N.Applied At.Free) c.args.index 1 (reverse c.args.values.now) c.in-1.is c.requires in
    record { value = h.value; below = h.below; makes = h.makes }

pub returns-in-1 : goal.returns-in-1
returns-in-1 c =
    built_at_place (N.Applied At.Free) c.args.index 1 (reverse c.args.values.now) (reverse c.applied_free_1.new.values) (Ok c.applied_free_1.result) c.in-1.is c.applied_free_1.ensures
