-- The heads so far, and those of the definitions that are left.
use Rattle.std.proofs.Common.{◌≡◌, ◌++◌, drop}
use Rattle.raw_meaning.specs.Outlines as spec
use Rattle.text_names.proofs.outlining.definition_heads.Given as goal

abbrev pub invariant-loop-definition : goal.invariant-loop-definition
invariant-loop-definition l = l.heads ++ spec.definition_heads l.functions (drop l.definition-index l.definitions) ≡ spec.definition_heads l.functions l.definitions
