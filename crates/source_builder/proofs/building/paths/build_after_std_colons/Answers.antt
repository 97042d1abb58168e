-- What `build_after_std_colons` calls builds the part. Written by tools/source_build.py.
use Rattle.std.proofs.Common.{reverse, Ok}
use Rattle.source_grammar.specs.declared.part.Part.TheVariants as N
use Rattle.source_builder.proofs.Places.{at_place, built_at_place}
use Rattle.source_builder.proofs.building.paths.build_after_std_colons.Goals as goal

pub after_colons_free_0-requires : goal.after_colons_free_0-requires
after_colons_free_0-requires c =
    let h = at_place (N.AfterStdColons c.args.context) c.args.index 0 (reverse c.args.values.now) c.in-0.is c.requires in
    record { value = h.value; below = h.below; makes = h.makes }

pub returns-in-0 : goal.returns-in-0
returns-in-0 c =
    built_at_place (N.AfterStdColons c.args.context) c.args.index 0 (reverse c.args.values.now) (reverse c.after_colons_free_0.new.values) (Ok c.after_colons_free_0.result) c.in-0.is c.after_colons_free_0.ensures

pub after_std_colons_free_1-requires : goal.after_std_colons_free_1-requires
after_std_colons_free_1-requires c =
    let h = at_place (N.AfterStdColons c.args.context) c.args.index 1 (reverse c.args.values.now) c.in-1.is c.requires in
    record { value = h.value; below = h.below; makes = h.makes }

pub returns-in-1 : goal.returns-in-1
returns-in-1 c =
    built_at_place (N.AfterStdColons c.args.context) c.args.index 1 (reverse c.args.values.now) (reverse c.after_std_colons_free_1.new.values) c.after_std_colons_free_1.result c.in-1.is c.after_std_colons_free_1.ensures

pub after_colons_free_1-requires : goal.after_colons_free_1-requires
after_colons_free_1-requires c =
    let h = at_place (N.AfterStdColons c.args.context) c.args.index 2 (reverse c.args.values.now) c.in-2.is c.requires in
    record { value = h.value; below = h.below; makes = h.makes }

pub returns-in-2 : goal.returns-in-2
returns-in-2 c =
    built_at_place (N.AfterStdColons c.args.context) c.args.index 2 (reverse c.args.values.now) (reverse c.after_colons_free_1.new.values) c.after_colons_free_1.result c.in-2.is c.after_colons_free_1.ensures
