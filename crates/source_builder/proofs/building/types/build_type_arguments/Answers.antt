-- What `build_type_arguments` calls builds the part. Written by tools/source_build.py.
use Rattle.std.proofs.Common.{reverse, Ok}
use Rattle.source_grammar.specs.declared.part.Part.TheVariants as N
use Rattle.source_builder.proofs.Places.{at_place, built_at_place}
use Rattle.source_builder.proofs.building.types.build_type_arguments.Goals as goal

pub variant_body_0-requires : goal.variant_body_0-requires
variant_body_0-requires c =
    let h = at_place N.TypeArguments c.args.index 0 (reverse c.args.values.now) c.in-0.is c.requires in
    record { value = h.value; below = h.below; makes = h.makes }

pub returns-in-0 : goal.returns-in-0
returns-in-0 c =
    built_at_place N.TypeArguments c.args.index 0 (reverse c.args.values.now) (reverse c.variant_body_0.new.values) (Ok c.variant_body_0.result) c.in-0.is c.variant_body_0.ensures

pub variant_body_1-requires : goal.variant_body_1-requires
variant_body_1-requires c =
    let h = at_place N.TypeArguments c.args.index 1 (reverse c.args.values.now) c.in-1.is c.requires in
    record { value = h.value; below = h.below; makes = h.makes }

pub returns-in-1 : goal.returns-in-1
returns-in-1 c =
    built_at_place N.TypeArguments c.args.index 1 (reverse c.args.values.now) (reverse c.variant_body_1.new.values) (Ok c.variant_body_1.result) c.in-1.is c.variant_body_1.ensures
