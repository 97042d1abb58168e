-- The numbers so far, and those that are left.
use Rattle.std.proofs.Common.{◌≡◌, drop}
use Rattle.text_trees.specs.Codes.{variables_told}
use Rattle.text_trees.specs.Nodes.{variable}
use Rattle.text_trees.specs.Told.{each, behind}
use Rattle.text_trees.proofs.computations.settle_variables.Given as goal

abbrev pub invariant-loop-i : goal.invariant-loop-i
invariant-loop-i l = variables_told l.names ≡ behind l.done (each variable (drop l.i l.names))
