-- An atom is larger than its parts.
use Rattle.std.specs.Prelude.{◌≤◌, ◌+◌, ◌*◌, List, [], ◌∷◌}
use Rattle.std.proofs.Common.{arith}
use denote.Param.Weighed.{most}
use Rattle.raw_ast.specs.declared.atom.RawAtomNode.{RawAtomNode}
use Rattle.raw_ast.specs.declared.atom.RawAtomNode.TheVariants as N
use Rattle.raw_ast.specs.declared.atom.RawAtom.TheDeep.{deep-RawAtomNode}
use Rattle.raw_ast.specs.Atoms.{RawAtom, rawatoms, nodes_rawatom, nodes_rawatoms}
use Rattle.raw_ast.specs.AtomView.{atom_of}

most_atoms : (ts : List RawAtom) → most (λ t. nodes_rawatom t + 1) ts ≤ nodes_rawatoms (rawatoms ts) + 1
most_atoms [] = omega arith
most_atoms (t ∷ ts) = omega (arith, most_atoms ts)

pub atom_falls : (n : RawAtomNode) → deep-RawAtomNode n ≤ nodes_rawatom (atom_of n)
atom_falls (N.Tuple ts) = omega (arith, most_atoms ts)
atom_falls (N.Ctor c ts) = omega (arith, most_atoms ts)
atom_falls _ = omega arith

-- the parts of an atom are smaller than the atom
pub most_dropped : (ts : List RawAtom) → most (λ t. 2 * (nodes_rawatom t + 1) + 0) ts ≤ 2 * nodes_rawatoms (rawatoms ts)
most_dropped [] = omega arith
most_dropped (t ∷ ts) = omega (arith, most_dropped ts)
