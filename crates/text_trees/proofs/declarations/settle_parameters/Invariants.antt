-- The names so far, and those that are left.
use Rattle.std.proofs.Common.{◌≡◌, [], drop}
use Rattle.text_trees.specs.Declarations.{parameters_told}
use Rattle.text_trees.proofs.declarations.settle_parameters.Given as goal

abbrev pub invariant-loop-i : goal.invariant-loop-i
invariant-loop-i l = parameters_told l.types [] l.raw ≡ parameters_told l.types l.before (drop l.i l.raw)
