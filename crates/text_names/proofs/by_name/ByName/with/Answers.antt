use Rattle.std.proofs.Common.{arith, ◌≡◌, bytes_eq, length}
use Rattle.indexmap.specs.IndexMap.{get}
use Rattle.text_names.proofs.Placing.{added}
use Rattle.text_names.proofs.by_name.ByName.with.Goals as goal

pub invariant_of-result : goal.invariant_of-result
invariant_of-result g c w =
    let n : c.in-Ok.place ≡ length c.self.inside.items = omega arith in
    added bytes_eq g.T.Named.name_of c.self.inside.items c.push.new.self c.args.item c.name.result.now c.in-Ok.place (get bytes_eq c.self.inside.table) (get bytes_eq c.enter.new.table)
    c.name.ensures n c.in_ok-push.ensures.ok c.in_ok-enter.ensures c.self.invariant w
