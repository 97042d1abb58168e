-- Each lexeme leaves the others to what is to come.
use Rattle.std.proofs.Common.{subst, Bool, reverse}
use Rattle.table_reader.specs.Machine.{Takes}
use Rattle.table_reader.proofs.Whole as W
use Rattle.table_reader.proofs.reader.step_through.Goals as goal

pub loop-place-init : goal.loop-place-init
loop-place-init g c =
    let b = g.G.Grammar in
    let v = g.G.Builds in
    W.been_start b.takes v.carrier v.made v.held b.productions g.met.G.Builds.same_productions b.rank b.weight g.met.G.Grammar.fits c.args.start c.args.lexemes.now c.new-coming.result c.push.new.self c.new-values.result c.new-coming.ensures c.in_ok-push.ensures.ok c.new-values.ensures

pub loop-place-preserved : goal.loop-place-preserved
loop-place-preserved g c =
    let b = g.G.Grammar in
    let v = g.G.Builds in
    W.been_next b.takes v.carrier v.made v.held b.productions g.met.G.Builds.same_productions b.rank b.weight g.met.G.Grammar.fits c.args.start c.args.lexemes.now c.loop-place.place (reverse c.loop-place.coming) (reverse c.loop-place.values) c.loop-place.invariant
    c.index-lexemes-place.result c.loop-place-test.true c.index-lexemes-place.is (reverse c.take.new.coming) (reverse c.take.new.values)
    (subst (λ (t : Bool). Takes b.takes v.carrier v.made v.held b.productions b.rank b.weight (reverse c.loop-place.coming) (reverse c.loop-place.values) c.index-lexemes-place.result t (reverse c.take.new.coming) (reverse c.take.new.values))
    c.if-not-branch.false c.in_ok-take.ensures)
