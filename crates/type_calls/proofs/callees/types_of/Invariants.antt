use Rattle.std.proofs.Common.{◌≡◌, ◌++◌, drop}
use Rattle.type_calls.specs.Called.{field_types}
use Rattle.type_calls.proofs.callees.types_of.Given as goal

abbrev pub invariant-loop-i : goal.invariant-loop-i
invariant-loop-i l = l.all ++ field_types (drop l.i l.fields) ≡ field_types l.fields
