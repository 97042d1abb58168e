use Rattle.std.proofs.Common.{◌≡◌, drop}
use Rattle.name_tables.specs.Tables.{gather, nothing}
use Rattle.name_tables.proofs.gathering.gather.Given as goal

abbrev pub invariant-loop-i : goal.invariant-loop-i
invariant-loop-i l = gather (drop l.i l.items) l.so_far ≡ gather l.items nothing
