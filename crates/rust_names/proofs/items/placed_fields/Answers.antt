use Rattle.std.proofs.Common.{ap, sym, ◌∙◌}
use Rattle.name_uses.specs.Walks.{behind, behind_nothing}
use Rattle.rust_names.specs.Resolution.{read_placed}
use Rattle.rust_names.proofs.items.placed_fields.Goals as goal

pub loop-i-init : goal.loop-i-init
loop-i-init c =
    let whole = read_placed c.args.tables.now c.args.generics.now 0 c.args.types.now in
    sym (behind_nothing whole) ∙ ap (λ d. behind d whole) (sym c.new-done.ensures)
