use Rattle.std.proofs.Common.{◌≡◌, drop}
use Rattle.name_uses.specs.Walks.{each, behind}
use Rattle.rust_names.specs.Resolution.{read_params, param_type}
use Rattle.rust_names.proofs.items.param_types.Given as goal

abbrev pub invariant-loop-i : goal.invariant-loop-i
invariant-loop-i l = read_params l.tables l.generics l.params ≡ behind l.done (each (param_type l.tables l.generics) (drop l.i l.params))
