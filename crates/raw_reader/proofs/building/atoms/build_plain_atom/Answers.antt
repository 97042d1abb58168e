-- What `build_plain_atom` calls builds the part. Written by tools/text_ways.py.
use Rattle.std.proofs.Common.{reverse}
use Rattle.text_table.specs.declared.part.Part.TheVariants as N
use Rattle.raw_reader.proofs.Places.{built_at_place}
use Rattle.raw_reader.proofs.building.atoms.build_plain_atom.Goals as goal

pub returns-in-0 : goal.returns-in-0
returns-in-0 c =
    built_at_place N.PlainAtom c.args.index 0 (reverse c.args.values.now) (reverse c.plain_atom_0.new.values) c.plain_atom_0.result c.in-0.is c.plain_atom_0.ensures

pub returns-in-1 : goal.returns-in-1
returns-in-1 c =
    built_at_place N.PlainAtom c.args.index 1 (reverse c.args.values.now) (reverse c.plain_atom_1.new.values) c.plain_atom_1.result c.in-1.is c.plain_atom_1.ensures

pub returns-in-2 : goal.returns-in-2
returns-in-2 c =
    built_at_place N.PlainAtom c.args.index 2 (reverse c.args.values.now) (reverse c.plain_atom_2.new.values) c.plain_atom_2.result c.in-2.is c.plain_atom_2.ensures

pub returns-in-3 : goal.returns-in-3
returns-in-3 c =
    built_at_place N.PlainAtom c.args.index 3 (reverse c.args.values.now) (reverse c.plain_atom_3.new.values) c.plain_atom_3.result c.in-3.is c.plain_atom_3.ensures

pub returns-in-4 : goal.returns-in-4
returns-in-4 c =
    built_at_place N.PlainAtom c.args.index 4 (reverse c.args.values.now) (reverse c.plain_atom_4.new.values) c.plain_atom_4.result c.in-4.is c.plain_atom_4.ensures
