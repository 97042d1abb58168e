-- The variants so far, and those that are left.
use Rattle.std.proofs.Common.{◌≡◌, [], drop}
use Rattle.text_trees.specs.Declarations.{variants_told}
use Rattle.text_trees.specs.Told.{behind}
use Rattle.text_trees.proofs.declarations.settle_variants.Given as goal

abbrev pub invariant-loop-i : goal.invariant-loop-i
invariant-loop-i l =
    variants_told l.tables l.ty l.parameters [] l.raw ≡ behind l.done (variants_told l.tables l.ty l.parameters l.before (drop l.i l.raw))
