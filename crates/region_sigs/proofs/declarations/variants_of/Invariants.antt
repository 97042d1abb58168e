use Rattle.std.proofs.Common.{◌≡◌, drop}
use Rattle.region_sigs.specs.Walks.{each_onto, variant_written}
use Rattle.type_rules.specs.Declarations.{parameter_numbers, variants_written}
use Rattle.region_sigs.proofs.declarations.variants_of.Given as goal

abbrev pub invariant-loop-i : goal.invariant-loop-i
invariant-loop-i l = each_onto (variant_written (parameter_numbers l.types)) l.done (drop l.i l.variants) ≡ variants_written (parameter_numbers l.types) l.variants
