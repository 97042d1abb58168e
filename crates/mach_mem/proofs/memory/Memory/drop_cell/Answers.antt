use Rattle.std.proofs.Common.{[], ◌∷◌, nat_eq, ap, ◌∙◌}
use Rattle.indexmap.specs.IndexMap.{get}
use Rattle.mach_mem.specs.Cells.{cell_number}
use Rattle.mach_mem.specs.Memory.{without}
use Rattle.mach_mem.proofs.Tabled.{gone}
use Rattle.mach_mem.proofs.memory.Memory.drop_cell.Goals as goal

pub returns : goal.returns
returns c =
    gone (get nat_eq c.self.inside.live) (get nat_eq c.swap_remove.new.self) (cell_number c.args.cell) c.self.inside.decls c.self.inside.count
    c.self.invariant c.swap_remove.ensures.updates.0
    ∙ ap (without (cell_number c.args.cell ∷ [])) c.self.view_is
