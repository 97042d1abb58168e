-- What the part led to from all lexemes, what is to come leads to from those that are left.
use Rattle.std.proofs.Common.{reverse}
use Rattle.table_reader.proofs.Whole.{Been}
use Rattle.table_reader.proofs.reader.step_through.Given as goal

abbrev pub invariant-loop-place : goal.invariant-loop-place
invariant-loop-place g l =
    let b = g.G.Grammar in
    let v = g.G.Builds in
    Been b.takes v.carrier v.made v.held b.productions g.met.G.Builds.same_productions b.rank b.weight g.met.G.Grammar.fits l.fn.start l.lexemes l.place (reverse l.coming) (reverse l.values)
