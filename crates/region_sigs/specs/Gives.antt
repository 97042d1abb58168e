-- What a function that types gives: the answer of the definition; want of memory is free.
use Rattle.std.specs.Prelude.{◌≡◌, Result, Ok, Err}
use Rattle.aen_base.specs.declared.limits.Which.TheVariants.{TypeNodes}
use Rattle.region_sigs.specs.declared.fault.RegionFault.{RegionFault}
use Rattle.region_sigs.specs.declared.fault.RegionFault.TheVariants as code
use Rattle.type_rules.specs.Faults.{Fault, at, too_large}
use Rattle.type_rules.specs.declared.fault.KindOfFault.TheVariants.{NestedBorrow, NoRegion, Arity}

-- the first fault is this one
abbrev pub Fails : {A : Type 0} → Result A Fault → RegionFault → Type 0
Fails o (code.NoRegion p) = o ≡ Err (at p NoRegion)
Fails o (code.NestedBorrow p) = o ≡ Err (at p NestedBorrow)
Fails o (code.Arity p) = o ≡ Err (at p Arity)
Fails o (code.Limit w n) = (o ≡ Err too_large) × ((w ≡ TypeNodes) × (n ≡ 1001))
Fails o code.Memory = Unit {0}

-- the answer, of which code has this form
abbrev pub GivesAs : {A B : Type 0} → (B → A) → Result A Fault → Result B RegionFault → Type 0
GivesAs f o (Ok x) = o ≡ Ok (f x)
GivesAs f o (Err e) = Fails o e

abbrev pub Gives : {A : Type 0} → Result A Fault → Result A RegionFault → Type 0
Gives o (Ok x) = o ≡ Ok x
Gives o (Err e) = Fails o e

-- no reference lacks a region
abbrev pub NeverNoRegion : {A : Type 0} → Result A RegionFault → Type 0
NeverNoRegion (Err (code.NoRegion p)) = ⊥
NeverNoRegion (Err (code.NestedBorrow p)) = Unit {0}
NeverNoRegion (Err (code.Arity p)) = Unit {0}
NeverNoRegion (Err (code.Limit w n)) = Unit {0}
NeverNoRegion (Err code.Memory) = Unit {0}
NeverNoRegion (Ok x) = Unit {0}
