use Rattle.std.proofs.Common.{◌≡◌, drop}
use Rattle.region_sigs.specs.Walks.{each_onto, declaration}
use Rattle.type_rules.specs.Declarations.{parameter_numbers, declarations}
use Rattle.region_sigs.proofs.declarations.declarations.Given as goal

abbrev pub invariant-loop-i : goal.invariant-loop-i
invariant-loop-i l = each_onto (declaration (parameter_numbers l.types)) l.done (drop l.i l.these) ≡ declarations (parameter_numbers l.types) l.these
