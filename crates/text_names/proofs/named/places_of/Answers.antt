use Rattle.std.proofs.Common.{arith, bytes_eq, ◌≡◌, ◌<◌, length}
use Rattle.indexmap.specs.IndexMap.{get}
use Rattle.text_names.proofs.Placing.{entered}
use Rattle.text_names.proofs.named.places_of.Goals as goal

pub loop-place-preserved : goal.loop-place-preserved
loop-place-preserved g c w =
    let n : c.in-Ok.number ≡ c.loop-place.place = omega arith in
    let l : c.loop-place.place < length c.args.items.now = omega arith in
    entered bytes_eq g.T.Named.name_of c.args.items.now c.loop-place.place c.index-items-place.result c.index-items-place.result c.name.result.now c.in-Ok.number (get bytes_eq c.loop-place.table) (get bytes_eq c.enter.new.table)
    l c.index-items-place.is c.name.ensures n c.in_ok-enter.ensures c.loop-place.invariant w
