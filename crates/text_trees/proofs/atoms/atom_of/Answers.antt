-- What is told of an atom is what the definitions give.
use Rattle.raw_meaning.specs.Faults.{atom_faults}
use Rattle.raw_meaning.specs.Trees.{atom_tree}
use Rattle.text_trees.specs.Atoms.{atom_told}
use Rattle.text_trees.proofs.Agreeing.{settled}
use Rattle.text_trees.proofs.AgreeingTrees.{atom_settles}
use Rattle.text_trees.proofs.atoms.atom_of.Goals as goal

pub returns : goal.returns
returns c =
    let h = c.args.tables.now in
    let x = c.args.raw.now in
    settled (atom_faults h x) (atom_tree h x) (atom_told h x) c.settle_atom.result (atom_settles h x) c.settle_atom.ensures
