-- What is over is built, until one value stands alone.
use Rattle.std.proofs.Common.{refl, reverse}
use Rattle.table_reader.specs.declared.coming.Coming.TheVariants as C
use Rattle.table_reader.proofs.Turning as U
use Rattle.table_reader.proofs.Ending as E
use Rattle.table_reader.proofs.reader.finish.Goals as goal

pub skip-requires-after_bounds : goal.skip-requires-after_bounds
skip-requires-after_bounds g c =
    let b = g.G.Grammar in
    let v = g.G.Builds in
    λ _ _. U.skip_can b.takes v.carrier v.made v.held b.productions g.met.G.Builds.same_productions b.rank b.weight g.met.G.Grammar.fits c.in-Part.part (reverse c.pop.new.self) (reverse c.loop-symbol.values) (E.newest b.takes v.carrier v.made v.held b.productions g.met.G.Builds.same_productions b.rank b.weight g.met.G.Grammar.fits (reverse c.args.coming) (reverse c.args.values) c.loop-symbol.coming c.pop.new.self (reverse c.loop-symbol.values) c.in-Some.symbol (C.Part c.in-Part.part) c.in-Some.ensures c.in-Part.is c.loop-symbol.invariant).ready

pub returns-then-not-branch : goal.returns-then-not-branch
returns-then-not-branch g c =
    let b = g.G.Grammar in
    let v = g.G.Builds in
    E.part_stays b.takes v.carrier v.made v.held b.productions g.met.G.Builds.same_productions b.rank b.weight g.met.G.Grammar.fits (reverse c.args.coming) (reverse c.args.values) c.in-Part.part (reverse c.pop.new.self) (reverse c.loop-symbol.values) (reverse c.skip.new.values) c.in_ok-skip-in-Part.field-0 c.in_ok-skip-in-Part.ensures
    (E.newest b.takes v.carrier v.made v.held b.productions g.met.G.Builds.same_productions b.rank b.weight g.met.G.Grammar.fits (reverse c.args.coming) (reverse c.args.values) c.loop-symbol.coming c.pop.new.self (reverse c.loop-symbol.values) c.in-Some.symbol (C.Part c.in-Part.part) c.in-Some.ensures c.in-Part.is c.loop-symbol.invariant) c.if-not-branch.true

pub loop-symbol-preserved-else-not-branch : goal.loop-symbol-preserved-else-not-branch
loop-symbol-preserved-else-not-branch g c =
    let b = g.G.Grammar in
    let v = g.G.Builds in
    E.part_ends b.takes v.carrier v.made v.held b.productions g.met.G.Builds.same_productions b.rank b.weight g.met.G.Grammar.fits (reverse c.args.coming) (reverse c.args.values) c.in-Part.part (reverse c.pop.new.self) (reverse c.loop-symbol.values) (reverse c.skip.new.values) c.in_ok-skip-in-Part.field-0 c.in_ok-skip-in-Part.ensures
    (E.newest b.takes v.carrier v.made v.held b.productions g.met.G.Builds.same_productions b.rank b.weight g.met.G.Grammar.fits (reverse c.args.coming) (reverse c.args.values) c.loop-symbol.coming c.pop.new.self (reverse c.loop-symbol.values) c.in-Some.symbol (C.Part c.in-Part.part) c.in-Some.ensures c.in-Part.is c.loop-symbol.invariant) c.if-not-branch.false

pub loop-symbol-preserved : goal.loop-symbol-preserved
loop-symbol-preserved g c =
    let b = g.G.Grammar in
    let v = g.G.Builds in
    E.over_ends b.takes v.carrier v.made v.held b.productions g.met.G.Builds.same_productions b.rank b.weight g.met.G.Grammar.fits (reverse c.args.coming) (reverse c.args.values) c.in-Over.part c.in-Over.index (reverse c.pop.new.self) (reverse c.loop-symbol.values) (reverse c.over.new.values) c.in_ok-over-in-Over.ensures
    (E.newest b.takes v.carrier v.made v.held b.productions g.met.G.Builds.same_productions b.rank b.weight g.met.G.Grammar.fits (reverse c.args.coming) (reverse c.args.values) c.loop-symbol.coming c.pop.new.self (reverse c.loop-symbol.values) c.in-Some.symbol (C.Over c.in-Over.part c.in-Over.index) c.in-Some.ensures c.in-Over.is c.loop-symbol.invariant)

pub returns : goal.returns
returns g c =
    let b = g.G.Grammar in
    let v = g.G.Builds in
    E.value_is b.takes v.carrier v.made v.held b.productions g.met.G.Builds.same_productions b.rank b.weight g.met.G.Grammar.fits (reverse c.args.coming) (reverse c.args.values) c.loop-symbol.coming (reverse c.loop-symbol.values) c.in_default.ensures.0 c.loop-symbol.invariant c.loop-symbol.values c.pop-2.new.self c.in-Some-pop.item refl c.in-Some-pop.ensures c.in-Part-item.value c.in-Part-item.is
