-- What `build_operand` calls builds the part. Written by tools/source_build.py.
use Rattle.std.proofs.Common.{reverse, Ok}
use Rattle.source_grammar.specs.declared.part.Part.TheVariants as N
use Rattle.source_builder.proofs.Places.{at_place, built_at_place}
use Rattle.source_builder.proofs.building.expressions.build_operand.Goals as goal

pub let_value_0-requires : goal.let_value_0-requires
let_value_0-requires c =
    let h = at_place N.Operand c.args.index 0 (reverse c.args.values.now) c.in-0.is c.requires in
    record { value = h.value; below = h.below; makes = h.makes }

pub returns-in-0 : goal.returns-in-0
returns-in-0 c =
    built_at_place N.Operand c.args.index 0 (reverse c.args.values.now) (reverse c.let_value_0.new.values) (Ok c.let_value_0.result) c.in-0.is c.let_value_0.ensures

pub returns-in-1 : goal.returns-in-1
returns-in-1 c =
    built_at_place N.Operand c.args.index 1 (reverse c.args.values.now) (reverse c.operand_1.new.values) (Ok c.operand_1.result) c.in-1.is c.operand_1.ensures
