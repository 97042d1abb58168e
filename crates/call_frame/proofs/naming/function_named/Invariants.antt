use Rattle.std.proofs.Common.{◌≡◌}
use Rattle.call_frame.specs.Named.{NoneNamed}
use Rattle.call_frame.proofs.naming.function_named.Given as goal

abbrev pub invariant-loop-function : goal.invariant-loop-function
invariant-loop-function l = record { place : l.number ≡ l.function-index; none : NoneNamed l.functions l.name l.number }
