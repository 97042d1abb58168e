-- Atoms in which no rule is broken are well-formed.
use Rattle.raw_forms.specs.Atoms.{atom_formed}
use Rattle.raw_forms.proofs.laws.atoms_are_formed.Goals as goal

pub returns : goal.returns
returns c = λ h a s e. atom_formed h a s e
