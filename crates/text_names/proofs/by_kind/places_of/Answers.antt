use Rattle.std.proofs.Common.{arith, ◌≡◌, ◌<◌, length}
use Rattle.indexmap.specs.IndexMap.{get}
use Rattle.text_names.specs.contracts.kind_key.KindKeyPartialEq.TheImpl as key
use Rattle.text_names.proofs.Placing.{entered}
use Rattle.text_names.proofs.by_kind.places_of.Goals as goal

pub loop-place-preserved : goal.loop-place-preserved
loop-place-preserved g c w =
    let n : c.in-Ok.number ≡ c.loop-place.place = omega arith in
    let l : c.loop-place.place < length c.args.items.now = omega arith in
    entered key.eq-value.it g.T.Kinded.key_of c.args.items.now c.loop-place.place c.index-items-place.result c.index-items-place.result c.key.result c.in-Ok.number (get key.eq-value.it c.loop-place.table) (get key.eq-value.it c.enter.new.table)
    l c.index-items-place.is c.key.ensures n c.in_ok-enter.ensures c.loop-place.invariant w
