-- The definitions so far, and those that are left.
use Rattle.std.proofs.Common.{◌≡◌, [], drop}
use Rattle.text_trees.specs.Definitions.{definitions_told}
use Rattle.text_trees.specs.Told.{behind}
use Rattle.text_trees.proofs.definitions.settle_definitions.Given as goal

abbrev pub invariant-loop-i : goal.invariant-loop-i
invariant-loop-i l = definitions_told l.tables l.types [] l.raw ≡ behind l.done (definitions_told l.tables l.types l.kinds (drop l.i l.raw))
