use Rattle.std.proofs.Common.{ap, sym, ◌∙◌, arith}
use Rattle.region_sigs.specs.Standings.{as_standing}
use Rattle.region_sigs.specs.Walks.{walk_onto, on_ok, in_tys}
use Rattle.region_sigs.proofs.Lists.{written_item, types_onto}
use Rattle.type_rules.specs.WrittenTypes.{written}
use Rattle.region_sigs.proofs.types.+written.Goals as goal

pub types_of-loop-item-init : goal.types_of-loop-item-init
types_of-loop-item-init g t c =
    let ns = g.D.Declaring.numbers c.args.types.now in
    let p = as_standing c.args.standing in
    types_onto ns p c.args.inside c.args.items.now c.args.next
    ∙ ap (λ d. on_ok in_tys (walk_onto (written ns p c.args.inside) d c.args.items.now c.args.next)) (sym c.new-done.ensures)

pub types_of-type_of-requires : goal.types_of-type_of-requires
types_of-type_of-requires g t c =
    let h = written_item c.args.items.now c.loop-item.item-index c.item-item.result (omega arith) c.item-item.is in
    λ _ within. (omega (arith, h), within)
