-- The terms so far, and those that are left.
use Rattle.std.proofs.Common.{◌≡◌, drop}
use Rattle.raw_ast.specs.Atoms.{rawatoms}
use Rattle.text_trees.specs.Atoms.{atom_told, atoms_told}
use Rattle.text_trees.specs.Told.{each, behind}
use Rattle.text_trees.proofs.atoms.settle_atoms.Given as goal

abbrev pub invariant-loop-i : goal.invariant-loop-i
invariant-loop-i l = atoms_told l.tables (rawatoms l.raw) ≡ behind l.done (each (atom_told l.tables) (drop l.i l.raw))
