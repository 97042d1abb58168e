-- A fault of a written type is one of typing.
use Rattle.std.proofs.Common.{◌≡◌, ap, ◌∙◌}
use Rattle.std.specs.Prelude.{ℕ, Result}
use Rattle.aen_base.specs.declared.limits.Which.{Which}
use Rattle.aen_base.specs.declared.limits.Which.TheVariants.{TypeNodes}
use Rattle.region_sigs.specs.Gives.{Fails}
use Rattle.region_sigs.specs.declared.fault.RegionFault.{RegionFault}
use Rattle.region_sigs.specs.declared.fault.RegionFault.TheVariants as region
use Rattle.type_rules.specs.Faults.{Fault}
use Rattle.type_values.specs.AsTypeFault.{as_type_fault}
use Rattle.type_values.specs.Gives.{IsFault}
use Rattle.type_values.specs.declared.fault.TypeFault.{TypeFault}
use Rattle.type_values.specs.declared.fault.TypeFault.TheVariants.{Limit}

limits : (w : Which) (n : ℕ) → w ≡ TypeNodes → n ≡ 1001 → Limit w n ≡ Limit TypeNodes 1001
limits w n p q = ap (λ v. Limit v n) p ∙ ap (λ k. Limit TypeNodes k) q

pub as_fault : {A : Type 0} (o : Result A Fault) (e : RegionFault) → Fails o e → IsFault o (as_type_fault e)
as_fault o (region.NoRegion p) h = h
as_fault o (region.NestedBorrow p) h = h
as_fault o (region.Arity p) h = h
as_fault o (region.Limit w n) h = (h.0, limits w n h.1.0 h.1.1)
as_fault o region.Memory h = tt
