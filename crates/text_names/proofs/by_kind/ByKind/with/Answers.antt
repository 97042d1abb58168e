use Rattle.std.proofs.Common.{arith, ◌≡◌, length}
use Rattle.indexmap.specs.IndexMap.{get}
use Rattle.text_names.specs.contracts.kind_key.KindKeyPartialEq.TheImpl as key
use Rattle.text_names.proofs.Placing.{added}
use Rattle.text_names.proofs.by_kind.ByKind.with.Goals as goal

pub invariant_of-result : goal.invariant_of-result
invariant_of-result g c w =
    let n : c.in-Ok.place ≡ length c.self.inside.items = omega arith in
    added key.eq-value.it g.T.Kinded.key_of c.self.inside.items c.push.new.self c.args.item c.key.result c.in-Ok.place (get key.eq-value.it c.self.inside.table) (get key.eq-value.it c.enter.new.table)
    c.key.ensures n c.in_ok-push.ensures.ok c.in_ok-enter.ensures c.self.invariant w
