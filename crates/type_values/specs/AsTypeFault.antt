-- The fault of a written type, as typing tells it.
use Rattle.region_sigs.specs.declared.fault.RegionFault.{RegionFault}
use Rattle.region_sigs.specs.declared.fault.RegionFault.TheVariants as region
use Rattle.type_rules.specs.declared.fault.KindOfFault.TheVariants.{NestedBorrow, NoRegion, Arity}
use Rattle.type_values.specs.declared.fault.TypeFault.{TypeFault}
use Rattle.type_values.specs.declared.fault.TypeFault.TheVariants.{At, Limit, Memory}

abbrev pub as_type_fault : RegionFault → TypeFault
as_type_fault (region.NoRegion p) = At p NoRegion
as_type_fault (region.NestedBorrow p) = At p NestedBorrow
as_type_fault (region.Arity p) = At p Arity
as_type_fault (region.Limit w n) = Limit w n
as_type_fault region.Memory = Memory
