use Rattle.std.proofs.Common.{◌≡◌, take}
use Rattle.name_tables.specs.Tables.{names_of}
use Rattle.name_tables.proofs.gathering.names_of.Given as goal

abbrev pub invariant-loop-i : goal.invariant-loop-i
invariant-loop-i l = l.names ≡ names_of (take l.i l.idents)
