use Rattle.std.proofs.Common.{◌≡◌, drop}
use Rattle.name_uses.specs.Walks.{each, behind}
use Rattle.rust_names.specs.Resolution.{read_variants, read_variant}
use Rattle.rust_names.proofs.items.resolve_variants.Given as goal

abbrev pub invariant-loop-i : goal.invariant-loop-i
invariant-loop-i l = read_variants l.tables l.generics l.variants ≡ behind l.done (each (read_variant l.tables l.generics) (drop l.i l.variants))
