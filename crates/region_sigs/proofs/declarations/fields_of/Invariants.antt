use Rattle.std.proofs.Common.{◌≡◌, drop}
use Rattle.region_sigs.specs.Walks.{each_onto, field_written}
use Rattle.type_rules.specs.Declarations.{parameter_numbers, fields_written}
use Rattle.region_sigs.proofs.declarations.fields_of.Given as goal

abbrev pub invariant-loop-i : goal.invariant-loop-i
invariant-loop-i l = each_onto (field_written (parameter_numbers l.types)) l.done (drop l.i l.fields) ≡ fields_written (parameter_numbers l.types) l.fields
