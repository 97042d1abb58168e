use Rattle.std.proofs.Common.{◌≡◌, drop}
use Rattle.std.specs.Prelude.{◌||◌}
use Rattle.rust_names.specs.Resolution.{has_many}
use Rattle.rust_names.proofs.resolving.has_many.Given as goal

abbrev pub invariant-loop-i : goal.invariant-loop-i
invariant-loop-i l = (l.many || has_many (drop l.i l.functions)) ≡ has_many l.functions
