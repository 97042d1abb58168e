-- What `build_atoms` calls builds the part. Written by tools/text_ways.py.
use Rattle.std.proofs.Common.{reverse, Ok}
use Rattle.text_table.specs.declared.part.Part.TheVariants as N
use Rattle.raw_reader.proofs.Places.{at_place, built_at_place}
use Rattle.raw_reader.proofs.building.atoms.build_atoms.Goals as goal

pub returns-in-0 : goal.returns-in-0
returns-in-0 c =
    built_at_place N.Atoms c.args.index 0 (reverse c.args.values.now) (reverse c.atoms_0.new.values) (Ok c.atoms_0.result) c.in-0.is c.atoms_0.ensures

pub arguments_1-requires : goal.arguments_1-requires
arguments_1-requires c =
    let h = at_place N.Atoms c.args.index 1 (reverse c.args.values.now) c.in-1.is c.requires in
    record { value = h.value; below = h.below; makes = h.makes }

pub returns-in-1 : goal.returns-in-1
returns-in-1 c =
    built_at_place N.Atoms c.args.index 1 (reverse c.args.values.now) (reverse c.arguments_1.new.values) c.arguments_1.result c.in-1.is c.arguments_1.ensures
