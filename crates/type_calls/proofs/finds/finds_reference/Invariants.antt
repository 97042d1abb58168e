use Rattle.std.proofs.Common.{◌≡◌, drop}
use Rattle.type_rules.specs.Matching.{finds_reference}
use Rattle.type_calls.proofs.finds.finds_reference.Given as goal

abbrev pub invariant-loop-i : goal.invariant-loop-i
invariant-loop-i l = finds_reference (drop l.i l.before) (drop l.i l.after) ≡ finds_reference l.before l.after
