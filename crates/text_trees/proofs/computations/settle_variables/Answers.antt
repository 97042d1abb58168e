use Rattle.std.proofs.Common.{sym, ap, ◌∙◌}
use Rattle.text_trees.specs.Nodes.{variable}
use Rattle.text_trees.specs.Told.{each, behind}
use Rattle.text_trees.proofs.Walking.{behind_nothing}
use Rattle.text_trees.proofs.computations.settle_variables.Goals as goal

pub loop-i-init : goal.loop-i-init
loop-i-init c =
    let all = each variable c.args.names.now in
    sym (behind_nothing all) ∙ ap (λ d. behind d all) (sym c.new-done.ensures)
