use Rattle.std.proofs.Common.{◌≡◌, [], drop}
use Rattle.name_tables.specs.Finding.{or_else}
use Rattle.name_clashes.specs.Twice.{twice_in_items}
use Rattle.name_clashes.proofs.twice.twice_in_items.Given as goal

abbrev pub invariant-loop-i : goal.invariant-loop-i
invariant-loop-i l = or_else l.found (twice_in_items l.tables.values l.seen (drop l.i l.items)) ≡ twice_in_items l.tables.values [] l.items
