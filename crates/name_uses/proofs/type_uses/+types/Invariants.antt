use Rattle.std.proofs.Common.{◌≡◌, ◌*◌, drop}
use Rattle.rust_ast.specs.SourceTypes.{writtens, nodes_written, nodes_writtens}
use Rattle.rust_ast.specs.Written as w
use Rattle.name_uses.specs.TypeUses.{read_type, read_types}
use Rattle.name_uses.specs.Walks.{on_ok, each, behind}
use Rattle.name_uses.proofs.type_uses.+types.Given as goal

abbrev pub decreases-resolve_type : goal.decreases-resolve_type
decreases-resolve_type l = 2 * nodes_written l.ty.now

abbrev pub decreases-resolve_types : goal.decreases-resolve_types
decreases-resolve_types l = 2 * nodes_writtens (writtens l.types.now)

abbrev pub invariant-resolve_types-loop-i : goal.invariant-resolve_types-loop-i
invariant-resolve_types-loop-i l =
    read_types l.tables l.generics (writtens l.types) ≡ on_ok w.writtens (behind l.done (each (read_type l.tables l.generics) (drop l.i l.types)))
