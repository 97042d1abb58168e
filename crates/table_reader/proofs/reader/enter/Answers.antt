-- Each production on the way is opened, down to the token.
use Rattle.std.proofs.Common.{refl, ap, subst, Bool, List, reverse}
use Rattle.table_reader.specs.Machine.{Finds, way}
use Rattle.table_reader.proofs.Stepping.{popped}
use Rattle.table_reader.proofs.Entering as E
use Rattle.table_reader.proofs.reader.enter.Goals as goal

pub returns-then-not-branch : goal.returns-then-not-branch
returns-then-not-branch g c =
    let b = g.G.Grammar in
    let v = g.G.Builds in (
      E.enters_none b.takes v.carrier v.made v.held b.productions g.met.G.Builds.same_productions b.rank b.weight g.met.G.Grammar.fits c.args.part c.args.lexeme.now c.rank.result (reverse c.args.ways.now) (reverse c.find.new.ways) c.rank.ensures
          (subst (λ (f : Bool). Finds (way b.takes b.productions c.rank.result 0 (b.productions c.args.part) c.args.lexeme.now) f (reverse c.args.ways.now) (reverse c.find.new.ways)) c.if-not-branch.true c.in_ok-find.ensures),
      refl,
    )

pub loop-place-init : goal.loop-place-init
loop-place-init g c =
    let b = g.G.Grammar in
    let v = g.G.Builds in
    E.begin_down b.takes v.carrier v.made v.held b.productions g.met.G.Builds.same_productions b.rank b.weight g.met.G.Grammar.fits c.args.part (reverse c.args.coming.now) c.args.lexeme.now c.rank.result (reverse c.args.ways.now) (reverse c.find.new.ways) c.rank.ensures c.requires
    (subst (λ (f : Bool). Finds (way b.takes b.productions c.rank.result 0 (b.productions c.args.part) c.args.lexeme.now) f (reverse c.args.ways.now) (reverse c.find.new.ways)) c.if-not-branch.false c.in_ok-find.ensures)

pub open-requires-after_bounds : goal.open-requires-after_bounds
open-requires-after_bounds g c =
    let b = g.G.Grammar in
    let v = g.G.Builds in
    λ _ _. E.entry b.takes v.carrier v.made v.held b.productions g.met.G.Builds.same_productions b.rank b.weight g.met.G.Grammar.fits
    c.args.part (reverse c.args.coming.now) c.args.lexeme.now c.loop-place.part (reverse c.loop-place.coming) (reverse c.args.ways.now) (reverse c.loop-place.ways) c.loop-place.invariant
    c.in-Some.place (reverse c.pop.new.self) (popped c.loop-place.ways c.pop.new.self c.in-Some.place c.in-Some.ensures)

pub returns-in-Token : goal.returns-in-Token
returns-in-Token g c =
    let b = g.G.Grammar in
    let v = g.G.Builds in
    E.enters_token b.takes v.carrier v.made v.held b.productions g.met.G.Builds.same_productions b.rank b.weight g.met.G.Grammar.fits
    c.args.part (reverse c.args.coming.now) c.args.lexeme.now c.loop-place.part (reverse c.loop-place.coming) (reverse c.args.ways.now) (reverse c.loop-place.ways) c.loop-place.invariant
    c.in-Some.place (reverse c.pop.new.self) (popped c.loop-place.ways c.pop.new.self c.in-Some.place c.in-Some.ensures)
    c.in_ok-terminal.field-0 (reverse c.open.new.coming) c.in_ok-terminal.ensures c.in-Token.terminal c.in-Token.is

pub loop-place-preserved : goal.loop-place-preserved
loop-place-preserved g c =
    let b = g.G.Grammar in
    let v = g.G.Builds in
    E.enters_part b.takes v.carrier v.made v.held b.productions g.met.G.Builds.same_productions b.rank b.weight g.met.G.Grammar.fits
    c.args.part (reverse c.args.coming.now) c.args.lexeme.now c.loop-place.part (reverse c.loop-place.coming) (reverse c.args.ways.now) (reverse c.loop-place.ways) c.loop-place.invariant
    c.in-Some.place (reverse c.pop.new.self) (popped c.loop-place.ways c.pop.new.self c.in-Some.place c.in-Some.ensures)
    c.in_ok-terminal.field-0 (reverse c.open.new.coming) c.in_ok-terminal.ensures c.in-Part.next c.in-Part.is

pub unreachable-requires : goal.unreachable-requires
unreachable-requires g c =
    let b = g.G.Grammar in
    let v = g.G.Builds in
    E.way_goes_on b.takes v.carrier v.made v.held b.productions g.met.G.Builds.same_productions b.rank b.weight g.met.G.Grammar.fits
    c.args.part (reverse c.args.coming.now) c.args.lexeme.now c.loop-place.part (reverse c.loop-place.coming) (reverse c.args.ways.now) (reverse c.loop-place.ways) c.loop-place.invariant
    (ap (λ (w : List _). reverse w) c.in_default.ensures.0)
