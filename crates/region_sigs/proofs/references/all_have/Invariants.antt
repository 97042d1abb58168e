use Rattle.std.proofs.Common.{◌≡◌, drop}
use Rattle.std.specs.Prelude.{◌==◌}
use Rattle.std.specs.List.{list_all}
use Rattle.core_ty.specs.declared.places.Position.{Position}
use Rattle.region_sigs.proofs.references.all_have.Given as goal

abbrev pub invariant-loop-position : goal.invariant-loop-position
invariant-loop-position l = list_all (λ (q : Position). q.region.0 == l.region) (drop l.position-index l.found) ≡ list_all (λ (q : Position). q.region.0 == l.region) l.found
