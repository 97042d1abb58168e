use Rattle.std.proofs.Common.{◌≡◌}
use Rattle.type_rules.specs.Matching.{begun}
use Rattle.type_calls.proofs.finds.begun.Given as goal

abbrev pub invariant-loop-i : goal.invariant-loop-i
invariant-loop-i l = l.finds ≡ begun l.i l.written
