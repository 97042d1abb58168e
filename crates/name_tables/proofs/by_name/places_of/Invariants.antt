use Rattle.std.proofs.Common.{bytes_eq, take}
use Rattle.indexmap.specs.IndexMap.{get}
use Rattle.name_tables.proofs.Placing.{Agreeing}
use Rattle.name_tables.proofs.by_name.places_of.Given as goal

abbrev pub invariant-loop-place : goal.invariant-loop-place
invariant-loop-place g l = Agreeing g.T.Named.name_of (take l.place l.items) (get bytes_eq l.table)
