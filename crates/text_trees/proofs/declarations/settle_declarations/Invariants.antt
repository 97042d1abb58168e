-- The types so far, and those that are left.
use Rattle.std.proofs.Common.{◌≡◌, [], drop}
use Rattle.text_trees.specs.Declarations.{declarations_told}
use Rattle.text_trees.specs.Told.{behind}
use Rattle.text_trees.proofs.declarations.settle_declarations.Given as goal

abbrev pub invariant-loop-i : goal.invariant-loop-i
invariant-loop-i l = declarations_told l.tables [] [] l.raw ≡ behind l.done (declarations_told l.tables l.types l.parameters (drop l.i l.raw))
