-- A fault of a part is the fault of the whole.
use Rattle.std.proofs.Common.{◌≡◌}
use Rattle.std.specs.Prelude.{Result, Err}
use Rattle.region_sigs.specs.Gives.{Fails}
use Rattle.region_sigs.specs.declared.fault.RegionFault.{RegionFault}
use Rattle.region_sigs.specs.declared.fault.RegionFault.TheVariants as code
use Rattle.type_rules.specs.Faults.{Fault}

pub passes : {A B : Type 0} (o : Result A Fault) (u : Result B Fault) (e : RegionFault) → Fails o e → ((x : Fault) → o ≡ Err x → u ≡ Err x) → Fails u e
passes o u (code.NoRegion p) h k = k _ h
passes o u (code.NestedBorrow p) h k = k _ h
passes o u (code.Arity p) h k = k _ h
passes o u (code.Limit w n) h k = (k _ h.0, h.1)
passes o u code.Memory h k = tt
