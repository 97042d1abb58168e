-- The functions after the definitions that are left.
use Rattle.std.proofs.Common.{◌≡◌, drop, []}
use Rattle.raw_meaning.specs.Outlines.{functions_after}
use Rattle.text_names.proofs.outlining.functions.Given as goal

abbrev pub invariant-loop-definition : goal.invariant-loop-definition
invariant-loop-definition l = functions_after l.functions (drop l.definition-index l.definitions) ≡ functions_after [] l.definitions
