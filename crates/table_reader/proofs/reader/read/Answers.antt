-- What the steps tell is what is read, or the first fault.
use Rattle.table_reader.proofs.Whole as W
use Rattle.table_reader.proofs.reader.read.Goals as goal

pub returns-clause-exact : goal.returns-clause-exact
returns-clause-exact g c =
    let b = g.G.Grammar in
    let v = g.G.Builds in
    W.told_exact b.takes v.carrier v.made v.held b.productions g.met.G.Builds.same_productions b.rank b.weight g.met.G.Grammar.fits c.args.start c.args.lexemes.now c.in_ok-read.read c.in_ok-read.ensures

pub returns-clause-not_read : goal.returns-clause-not_read
returns-clause-not_read g c =
    let b = g.G.Grammar in
    let v = g.G.Builds in
    W.told_not_read b.takes v.carrier v.made v.held b.productions g.met.G.Builds.same_productions b.rank b.weight g.met.G.Grammar.fits c.args.start c.args.lexemes.now c.in_ok-read.read c.in_ok-read.ensures
