use Rattle.std.proofs.Common.{[], arith}
use Rattle.name_clashes.specs.Twice.{twice_in_items}
use Rattle.name_clashes.proofs.Repeating.{items_turn, items_end}
use Rattle.name_clashes.proofs.twice.twice_in_items.Goals as goal

pub loop-i-preserved : goal.loop-i-preserved
loop-i-preserved c =
    let vs = c.args.tables.now.values in
    items_turn vs c.args.items.now c.loop-i.i c.index-items-i.result c.loop-i.seen c.in_ok-places.next c.loop-i.found c.in_ok-places.places c.first-more.result (twice_in_items vs [] c.args.items.now)
    (omega arith) c.index-items-i.is c.in_ok-places.ensures.places c.in_ok-places.ensures.names c.first-more.ensures c.loop-i.invariant

pub returns : goal.returns
returns c =
    let vs = c.args.tables.now.values in
    items_end vs c.args.items.now c.loop-i.i c.loop-i.seen c.loop-i.found (twice_in_items vs [] c.args.items.now) (omega arith) c.loop-i.invariant
