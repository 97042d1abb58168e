use Rattle.std.proofs.Common.{◌≡◌, ◌+◌, nat_eq, length, ap, sym, ◌∙◌, arith}
use Rattle.indexmap.specs.IndexMap.{get}
use Rattle.mach_mem.specs.Memory.{Memory, with_fresh}
use Rattle.mach_mem.proofs.Viewed.{length_cells}
use Rattle.mach_mem.proofs.Tabled.{one_more}
use Rattle.mach_mem.proofs.memory.Memory.fresh.Goals as goal

pub returns-in_ok-insert-in-Some-clause-made : goal.returns-in_ok-insert-in-Some-clause-made
returns-in_ok-insert-in-Some-clause-made c =
    let f = get nat_eq c.self.inside.live in
    let n = c.self.inside.count in
    let next : c.in-Some.next ≡ n + 1 = omega (arith, c.in-Some.ensures) in (
      sym (length_cells f n) ∙ ap (λ (m : Memory). length m.cells) c.self.view_is,
      one_more c.self.inside.decls f (get nat_eq c.insert.new.self) n c.in-Some.next c.args.tree next c.in_ok-insert-in-Some.ensures.updates.0 ∙ ap (with_fresh c.args.tree) c.self.view_is,
    )
