use Rattle.std.proofs.Common.{◌≡◌, drop}
use Rattle.type_rules.specs.Matching.{lacks_type}
use Rattle.type_calls.proofs.finds.lacks_type.Given as goal

abbrev pub invariant-loop-found : goal.invariant-loop-found
invariant-loop-found l = lacks_type (drop l.found-index l.finds) ≡ lacks_type l.finds
