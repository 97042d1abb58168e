use Rattle.std.proofs.Common.{◌≡◌, drop}
use Rattle.type_rules.specs.Fields as spec
use Rattle.type_values.proofs.fields.field_named.Given as goal

abbrev pub invariant-loop-i : goal.invariant-loop-i
invariant-loop-i l = spec.field_named l.name 0 l.fields ≡ spec.field_named l.name l.i (drop l.i l.fields)
