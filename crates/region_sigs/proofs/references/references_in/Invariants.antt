use Rattle.std.proofs.Common.{◌≡◌, ◌++◌, drop}
use Rattle.type_rules.specs.Signatures.{positions_in}
use Rattle.region_sigs.proofs.references.references_in.Given as goal

abbrev pub invariant-loop-ty : goal.invariant-loop-ty
invariant-loop-ty l = l.found ++ positions_in (drop l.ty-index l.types) ≡ positions_in l.types
