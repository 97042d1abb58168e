use Rattle.std.proofs.Common.{◌≡◌, drop}
use Rattle.name_uses.specs.Walks.{behind}
use Rattle.rust_names.specs.Resolution.{read_placed}
use Rattle.rust_names.proofs.items.placed_fields.Given as goal

abbrev pub invariant-loop-i : goal.invariant-loop-i
invariant-loop-i l = read_placed l.tables l.generics 0 l.types ≡ behind l.done (read_placed l.tables l.generics l.i (drop l.i l.types))
