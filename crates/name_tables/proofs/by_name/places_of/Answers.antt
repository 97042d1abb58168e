use Rattle.std.proofs.Common.{arith, bytes_eq, ◌<◌, length}
use Rattle.indexmap.specs.IndexMap.{get}
use Rattle.name_tables.proofs.Placing.{entered}
use Rattle.name_tables.proofs.by_name.places_of.Goals as goal

pub loop-place-preserved : goal.loop-place-preserved
loop-place-preserved g c w =
    let l : c.loop-place.place < length c.args.items.now = omega arith in
    entered g.T.Named.name_of c.args.items.now c.loop-place.place c.index-items-place.result c.index-items-place.result c.name.result.now (get bytes_eq c.loop-place.table) (get bytes_eq c.enter.new.table)
    l c.index-items-place.is c.name.ensures c.in_ok-enter.ensures c.loop-place.invariant w
