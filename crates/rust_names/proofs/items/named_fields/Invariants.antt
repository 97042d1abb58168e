use Rattle.std.proofs.Common.{◌≡◌, drop}
use Rattle.name_uses.specs.Walks.{each, behind}
use Rattle.rust_names.specs.Resolution.{read_named, named_field}
use Rattle.rust_names.proofs.items.named_fields.Given as goal

abbrev pub invariant-loop-i : goal.invariant-loop-i
invariant-loop-i l = read_named l.tables l.generics l.fields ≡ behind l.done (each (named_field l.tables l.generics) (drop l.i l.fields))
