-- The names before are the type parameters.
use Rattle.std.proofs.Common.{◌≡◌, drop}
use Rattle.raw_meaning.specs.Rules as rule
use Rattle.text_names.proofs.ends.end_names.Given as goal

abbrev pub invariant-loop-place : goal.invariant-loop-place
invariant-loop-place l = rule.end_names (drop l.place l.parameters) (drop l.place l.names) ≡ rule.end_names l.parameters l.names
