-- The lexeme begins the part that is opened next, and the way down is known.
use Rattle.std.proofs.Common.{reverse, length}
use Rattle.table_reader.proofs.Entering.{Down}
use Rattle.table_reader.proofs.reader.enter.Given as goal

abbrev pub invariant-loop-place : goal.invariant-loop-place
invariant-loop-place g l =
    let b = g.G.Grammar in
    let v = g.G.Builds in
    Down b.takes v.carrier v.made v.held b.productions g.met.G.Builds.same_productions b.rank b.weight g.met.G.Grammar.fits
    l.fn.part (reverse l.fn.coming) l.lexeme l.part (reverse l.coming) (reverse l.fn.ways) (reverse l.ways)

abbrev pub decreases-loop-place : goal.decreases-loop-place
decreases-loop-place g l = length l.ways
