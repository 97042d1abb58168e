-- The types so far, and those that are left.
use Rattle.std.proofs.Common.{◌≡◌, drop}
use Rattle.text_trees.specs.Definitions.{values_told}
use Rattle.text_trees.specs.Told.{behind}
use Rattle.text_trees.proofs.definitions.settle_values.Given as goal

abbrev pub invariant-loop-i : goal.invariant-loop-i
invariant-loop-i l = values_told l.tables l.parameters 0 l.raw ≡ behind l.done (values_told l.tables l.parameters l.i (drop l.i l.raw))
