-- The production that is looked for stands that many places further on.
use Rattle.std.proofs.Common.{◌≡◌, drop}
use Rattle.table_reader.specs.Derivations.{rows}
use Rattle.table_reader.specs.Machine.{first_place, is_empty}
use Rattle.table_reader.proofs.Stepping.{further}
use Rattle.table_reader.proofs.choice.empty_place.Given as goal

abbrev pub invariant-loop-place : goal.invariant-loop-place
invariant-loop-place g l = first_place is_empty (rows l.productions) ≡ further l.place (first_place is_empty (rows (drop l.place l.productions)))
