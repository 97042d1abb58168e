use Rattle.std.proofs.Common.{◌≡◌, ◌++◌, drop}
use Rattle.type_rules.specs.Matching.{found_types}
use Rattle.type_calls.proofs.finds.found_types.Given as goal

abbrev pub invariant-loop-found : goal.invariant-loop-found
invariant-loop-found l = l.all ++ found_types (drop l.found-index l.finds) ≡ found_types l.finds
