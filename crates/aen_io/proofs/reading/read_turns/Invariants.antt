use Rattle.std.proofs.Common.{◌≡◌, ◌≤◌, ◌+◌, ◌-◌, vec_len}
use Rattle.aen_io.proofs.Fronts.{IsFront}
use Rattle.aen_io.proofs.Logs.{IsReadSoFar}
use Rattle.aen_io.proofs.reading.read_turns.Given as goal

abbrev pub invariant-loop-whole : goal.invariant-loop-whole
invariant-loop-whole g l = record {
  most : l.most ≡ l.limit + 1;
  within : vec_len l.whole ≤ l.most;
  kept : g.F.Files.told l.files ≡ g.F.Files.told l.fn.files;
  later : g.F.Files.faults l.fn.files ≤ g.F.Files.faults l.files;
  reads : IsReadSoFar l.name (g.F.Files.handed l.fn.files) (g.F.Files.handed l.files) l.whole.items;
  front : IsFront (g.F.Files.told l.fn.files) l.name l.whole.items;
}

abbrev pub decreases-loop-whole : goal.decreases-loop-whole
decreases-loop-whole g l = l.most - vec_len l.whole
