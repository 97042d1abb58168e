use Rattle.std.proofs.Common.{◌≡◌, drop}
use Rattle.rust_names.specs.Resolution.{read_items, no_items}
use Rattle.rust_names.proofs.items.resolve_items.Given as goal

abbrev pub invariant-loop-i : goal.invariant-loop-i
invariant-loop-i l = read_items l.tables (drop l.i l.items) l.so_far ≡ read_items l.tables l.items no_items
