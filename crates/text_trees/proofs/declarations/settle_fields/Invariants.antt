-- The fields so far, and those that are left.
use Rattle.std.proofs.Common.{◌≡◌, [], drop}
use Rattle.text_trees.specs.Declarations.{fields_told}
use Rattle.text_trees.specs.Told.{behind}
use Rattle.text_trees.proofs.declarations.settle_fields.Given as goal

abbrev pub invariant-loop-i : goal.invariant-loop-i
invariant-loop-i l = fields_told l.tables l.parameters [] l.raw ≡ behind l.done (fields_told l.tables l.parameters l.before (drop l.i l.raw))
