use Rattle.std.proofs.Common.{sym, ap, ◌∙◌}
use Rattle.text_trees.specs.Atoms.{atom_told}
use Rattle.text_trees.specs.Told.{each, behind}
use Rattle.text_trees.proofs.Walking.{each_atom, behind_nothing}
use Rattle.text_trees.proofs.atoms.settle_atoms.Goals as goal

pub loop-i-init : goal.loop-i-init
loop-i-init c =
    let all = each (atom_told c.args.tables.now) c.args.raw.now in
    each_atom c.args.tables.now c.args.raw.now ∙ sym (behind_nothing all) ∙ ap (λ d. behind d all) (sym c.new-done.ensures)
