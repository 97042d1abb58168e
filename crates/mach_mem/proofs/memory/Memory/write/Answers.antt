use Rattle.std.proofs.Common.{◌≡◌, nat_eq, reverse, ap, ◌∙◌, subst}
use Rattle.indexmap.specs.IndexMap.{get}
use Rattle.mach_mem.specs.contracts.memory.Memory.{the_view}
use Rattle.mach_mem.specs.Addresses.{Address}
use Rattle.mach_mem.specs.Cells.{cell_number}
use Rattle.mach_mem.proofs.Tabled.{Writes, written, law_of}
use Rattle.mach_mem.proofs.memory.Memory.write.Goals as goal

pub returns-clause-exact : goal.returns-clause-exact
returns-clause-exact c =
    let new = the_view (record { decls = c.self.inside.decls; count = c.self.inside.count; live = c.fill_cell.new.live }) in
    let cell = cell_number c.at.inside.cell in
    let at_is : ◌≡◌ {A = Address} (cell, reverse c.as_slice.result.now) c.args.at.now = ap (λ p. (cell, reverse p)) c.as_slice.ensures ∙ c.at.view_is in
    let h = written (get nat_eq c.self.inside.live) (get nat_eq c.fill_cell.new.live) cell c.self.inside.decls c.self.inside.count c.self.invariant c.as_slice.result.now c.args.tree c.fill_cell.result c.fill_cell.ensures in
    subst (λ m. Writes m new c.args.at.now c.args.tree c.fill_cell.result) c.self.view_is (subst (λ a. Writes (the_view c.self.inside) new a c.args.tree c.fill_cell.result) at_is h)

pub returns-clause-law : goal.returns-clause-law
returns-clause-law c =
    let new = the_view (record { decls = c.self.inside.decls; count = c.self.inside.count; live = c.fill_cell.new.live }) in
    law_of c.args.self.now new c.args.at.now c.args.tree c.fill_cell.result (returns-clause-exact c)
