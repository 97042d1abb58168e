use Rattle.std.proofs.Common.{◌≡◌, ◌++◌, drop}
use Rattle.std.specs.Prelude.{map}
use Rattle.type_rules.specs.Places.{type_of}
use Rattle.type_forms.proofs.operands.types_of.Given as goal

abbrev pub invariant-loop-value : goal.invariant-loop-value
invariant-loop-value l = l.types ++ map type_of (drop l.value-index l.values) ≡ map type_of l.values
