use Rattle.std.proofs.Common.{◌<◌, [], map, length, bytes_eq, arith}
use Rattle.indexmap.specs.IndexMap.{get}
use Rattle.name_clashes.specs.Twice.{repeated_parameter}
use Rattle.name_clashes.proofs.Repeating.{next_first, turn}
use Rattle.name_clashes.proofs.repeated.repeated_beside.Goals as goal

pub loop-i-preserved : goal.loop-i-preserved
loop-i-preserved g c =
    let f = g.T.Declares.declared in
    let l : c.loop-i.i < length c.args.items.now = omega arith in
    record {
      table = next_first f c.args.items.now c.loop-i.i c.index-items-i.result c.name-name.result.now c.span-place.result (get bytes_eq c.loop-i.before) (get bytes_eq c.note.new.table)
          l c.index-items-i.is c.name-name.ensures c.span-place.ensures c.in_ok-note.ensures c.loop-i.invariant.table;
      rest = turn f c.args.seen.now c.args.items.now c.loop-i.i c.index-items-i.result c.loop-i.found c.first-more.result c.with_second-places.result (repeated_parameter c.args.seen.now [] (map f c.args.items.now))
          c.name-name.result.now c.span-place.result c.earlier-early.result (get bytes_eq c.loop-i.before)
          l c.index-items-i.is c.name-name.ensures c.span-place.ensures c.earlier-early.ensures c.with_second-places.ensures c.first-more.ensures c.loop-i.invariant.table c.loop-i.invariant.rest;
    }
