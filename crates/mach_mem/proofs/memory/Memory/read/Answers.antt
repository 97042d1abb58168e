use Rattle.std.proofs.Common.{◌≡◌, nat_eq, reverse, ap, sym, ◌∙◌}
use Rattle.indexmap.specs.IndexMap.{get}
use Rattle.mach_mem.specs.contracts.memory.Memory.{the_view}
use Rattle.mach_mem.specs.Addresses.{Address}
use Rattle.mach_mem.specs.Cells.{cell_number}
use Rattle.mach_mem.specs.Memory.{Memory, read}
use Rattle.mach_mem.proofs.Viewed.{read_seen}
use Rattle.mach_mem.proofs.memory.Memory.read.Goals as goal

pub returns : goal.returns
returns c =
    let cell = cell_number c.at.inside.cell in
    let at_is : ◌≡◌ {A = Address} (cell, reverse c.as_slice.result.now) c.args.at.now = ap (λ p. (cell, reverse p)) c.as_slice.ensures ∙ c.at.view_is in
    c.part_of.ensures ∙ sym (read_seen c.self.inside.decls (get nat_eq c.self.inside.live) c.self.inside.count c.self.invariant cell c.as_slice.result.now)
    ∙ ap (read (the_view c.self.inside)) at_is ∙ ap (λ (m : Memory). read m c.args.at.now) c.self.view_is
