-- What `build_postfix` calls builds the part. Written by tools/source_build.py.
use Rattle.std.proofs.Common.{reverse, Ok}
use Rattle.source_grammar.specs.declared.part.Part.TheVariants as N
use Rattle.source_builder.proofs.Places.{at_place, built_at_place}
use Rattle.source_builder.proofs.building.expressions.build_postfix.Goals as goal

pub type_parameters_0-requires : goal.type_parameters_0-requires
type_parameters_0-requires c =
    let h = at_place N.Postfix c.args.index 0 (reverse c.args.values.now) c.in-0.is c.requires in
    record { value = h.value; below = h.below; makes = h.makes }

pub returns-in-0 : goal.returns-in-0
returns-in-0 c =
    built_at_place N.Postfix c.args.index 0 (reverse c.args.values.now) (reverse c.type_parameters_0.new.values) (Ok c.type_parameters_0.result) c.in-0.is c.type_parameters_0.ensures

pub returns-in-1 : goal.returns-in-1
returns-in-1 c =
    built_at_place N.Postfix c.args.index 1 (reverse c.args.values.now) (reverse c.postfix_1.new.values) c.postfix_1.result c.in-1.is c.postfix_1.ensures
