use Rattle.std.proofs.Common.{◌≡◌, [], map, take, drop, bytes_eq}
use Rattle.indexmap.specs.IndexMap.{get}
use Rattle.name_tables.specs.Finding.{or_else}
use Rattle.name_clashes.specs.Twice.{repeated_parameter}
use Rattle.name_clashes.proofs.Repeating.{Firsts}
use Rattle.name_clashes.proofs.repeated.repeated_beside.Given as goal

abbrev pub invariant-loop-i : goal.invariant-loop-i
invariant-loop-i g l = record {
  table : Firsts g.T.Declares.declared (take l.i l.items) (get bytes_eq l.before);
  rest : or_else l.found (repeated_parameter l.seen (map g.T.Declares.declared (take l.i l.items)) (map g.T.Declares.declared (drop l.i l.items))) ≡ repeated_parameter l.seen [] (map g.T.Declares.declared l.items);
}
