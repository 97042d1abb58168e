-- Each leading part has less rank; the way of the productions that are left is that of all.
use Rattle.std.proofs.Common.{◌≡◌, ◌+◌, ◌*◌, reverse, drop}
use Rattle.table_reader.specs.Derivations.{rows}
use Rattle.table_reader.specs.Machine.{way}
use Rattle.table_reader.proofs.choice.+finding.Given as goal

abbrev pub decreases-find : goal.decreases-find
decreases-find g l = 2 * l.rank + 1

abbrev pub decreases-find_by : goal.decreases-find_by
decreases-find_by g l = 2 * l.rank

abbrev pub invariant-find-loop-place : goal.invariant-find-loop-place
invariant-find-loop-place g l =
    let t = g.G.Grammar in
    record {
      same : reverse l.ways ≡ reverse l.fn.ways;
      left : way t.takes t.productions l.rank l.place (rows (drop l.place l.productions)) l.lexeme
          ≡ way t.takes t.productions l.rank 0 (rows l.productions) l.lexeme;
    }
