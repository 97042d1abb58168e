-- The names so far, and those that are left.
use Rattle.std.proofs.Common.{◌≡◌, ◌++◌, drop}
use Rattle.raw_meaning.specs.Faults.{type_names}
use Rattle.text_trees.proofs.definitions.names_of_types.Given as goal

abbrev pub invariant-loop-i : goal.invariant-loop-i
invariant-loop-i l = type_names l.raw ≡ l.names ++ type_names (drop l.i l.raw)
