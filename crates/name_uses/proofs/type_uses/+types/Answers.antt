use Rattle.std.proofs.Common.{ap, sym, ◌∙◌, arith}
use Rattle.rust_ast.specs.Written as written
use Rattle.name_uses.specs.TypeUses.{read_type}
use Rattle.name_uses.specs.Walks.{on_ok, each, behind, behind_nothing}
use Rattle.name_uses.proofs.TypeLists.{type_item, each_type}
use Rattle.name_uses.proofs.type_uses.+types.Goals as goal

pub resolve_types-loop-i-init : goal.resolve_types-loop-i-init
resolve_types-loop-i-init t c =
    let step = read_type c.args.tables.now c.args.generics.now in
    each_type c.args.tables.now c.args.generics.now c.args.types.now
    ∙ ap (on_ok written.writtens) (sym (behind_nothing (each step c.args.types.now)) ∙ ap (λ d. behind d (each step c.args.types.now)) (sym c.new-done.ensures))

pub resolve_types-resolve_type-requires : goal.resolve_types-resolve_type-requires
resolve_types-resolve_type-requires t c =
    let h = type_item c.args.types.now c.loop-i.i c.index-types-i.result (omega arith) c.index-types-i.is in
    (omega (arith, h), tt)
