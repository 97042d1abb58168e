use Rattle.std.proofs.Common.{◌≡◌, take}
use Rattle.name_tables.specs.Tables.{variant_names}
use Rattle.name_tables.proofs.gathering.variant_names.Given as goal

abbrev pub invariant-loop-i : goal.invariant-loop-i
invariant-loop-i l = l.names ≡ variant_names (take l.i l.variants)
