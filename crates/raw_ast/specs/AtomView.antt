-- The atom that a node of the tree stands for (TEXT.md, "RawAtoms").
use Rattle.raw_ast.specs.declared.atom.RawAtomNode.{RawAtomNode}
use Rattle.raw_ast.specs.declared.atom.RawAtomNode.TheVariants as N
use Rattle.raw_ast.specs.Atoms.{RawAtom, var, literal, truth, tuple, built, rawatoms}

abbrev pub atom_of : RawAtomNode → RawAtom
atom_of (N.Var v) = var v
atom_of (N.Lit n t) = literal n t
atom_of (N.Bool b) = truth b
atom_of (N.Tuple ts) = tuple (rawatoms ts)
atom_of (N.Ctor c ts) = built c (rawatoms ts)
