-- What was built ends as all does.
use Rattle.std.proofs.Common.{reverse, length}
use Rattle.table_reader.proofs.Ending.{Ending}
use Rattle.table_reader.proofs.reader.finish.Given as goal

abbrev pub invariant-loop-symbol : goal.invariant-loop-symbol
invariant-loop-symbol g l =
    let b = g.G.Grammar in
    let v = g.G.Builds in
    Ending b.takes v.carrier v.made v.held b.productions g.met.G.Builds.same_productions b.rank b.weight g.met.G.Grammar.fits (reverse l.fn.coming) (reverse l.fn.values) (reverse l.coming) (reverse l.values)

abbrev pub decreases-loop-symbol : goal.decreases-loop-symbol
decreases-loop-symbol g l = length l.coming
