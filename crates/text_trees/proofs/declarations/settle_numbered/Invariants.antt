-- The fields so far, and those that are left.
use Rattle.std.proofs.Common.{◌≡◌, drop}
use Rattle.text_trees.specs.Declarations.{numbered_told}
use Rattle.text_trees.specs.Told.{behind}
use Rattle.text_trees.proofs.declarations.settle_numbered.Given as goal

abbrev pub invariant-loop-i : goal.invariant-loop-i
invariant-loop-i l = numbered_told l.tables l.parameters 0 l.raw ≡ behind l.done (numbered_told l.tables l.parameters l.i (drop l.i l.raw))
