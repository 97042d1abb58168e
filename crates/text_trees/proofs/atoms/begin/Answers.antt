-- A constructor has as many parts as its list has items.
use Rattle.std.proofs.Common.{◌≡◌, ap, sym, ◌∙◌, subst}
use Rattle.raw_ast.specs.Atoms.{built, rawatoms}
use Rattle.raw_ast.specs.AtomView.{atom_of}
use Rattle.text_trees.specs.Told.{Leads}
use Rattle.text_trees.specs.Atoms.{atom_told, step_told}
use Rattle.text_trees.proofs.Counting.{built_is}
use Rattle.text_trees.proofs.atoms.begin.Goals as goal

pub returns-in-Ctor-clause-meaning : goal.returns-in-Ctor-clause-meaning
returns-in-Ctor-clause-meaning c =
    let h = c.args.tables.now in
    let a = c.in-Ctor in
    let view = c.raw.view_is in
    let node = ap atom_of a.is in
    let raw : c.args.raw.now ≡ built a.name (rawatoms a.parts) = cc in
    let same = ap (atom_told h) raw ∙ built_is h a.name a.parts in
    subst (λ o. Leads o (step_told h) c.begin_built.result) (sym same) (rw c.as_slice-in-Ctor.ensures at (rw c.get.ensures at c.begin_built.ensures.meaning))
