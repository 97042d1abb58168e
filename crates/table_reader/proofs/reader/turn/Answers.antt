-- Each symbol that is over before the lexeme leaves it to what is to come; a token takes it.
use Rattle.std.proofs.Common.{refl, rules, reverse, [], ◌∷◌}
use Rattle.table_reader.specs.declared.coming.Coming.TheVariants as C
use Rattle.table_reader.specs.declared.symbol.Symbol.TheVariants as S
use Rattle.table_reader.specs.Building.{CanBuild}
use Rattle.table_reader.specs.Machine.{IsReached, symbols}
use Rattle.table_reader.proofs.Turning as U
use Rattle.table_reader.proofs.reader.turn.Goals as goal

pub loop-symbol-init : goal.loop-symbol-init
loop-symbol-init g c =
    let b = g.G.Grammar in
    let v = g.G.Builds in
    U.moves_start b.takes v.carrier v.made v.held b.productions g.met.G.Builds.same_productions b.rank b.weight g.met.G.Grammar.fits (reverse c.args.coming.now) (reverse c.args.values.now) c.args.lexeme.now c.requires.reached

pub enter-requires : goal.enter-requires
enter-requires g c =
    let b = g.G.Grammar in
    let v = g.G.Builds in
    let moves = (U.at_newest b.takes v.carrier v.made v.held b.productions g.met.G.Builds.same_productions b.rank b.weight g.met.G.Grammar.fits (reverse c.args.coming.now) (reverse c.args.values.now) (reverse c.loop-symbol.values) c.args.lexeme.now (c.args.lexeme.now ∷ []) c.loop-symbol.coming c.pop.new.self c.in-Some.symbol (C.Part c.in-Part.part) c.in-Some.ensures c.in-Part.is c.loop-symbol.invariant) in
    let reached : IsReached b.productions (S.Part c.in-Part.part ∷ symbols (reverse c.pop.new.self)) = moves.follows.reached in
    search rules

pub over-requires : goal.over-requires
over-requires g c =
    let b = g.G.Grammar in
    let v = g.G.Builds in
    let moves = (U.at_newest b.takes v.carrier v.made v.held b.productions g.met.G.Builds.same_productions b.rank b.weight g.met.G.Grammar.fits (reverse c.args.coming.now) (reverse c.args.values.now) (reverse c.loop-symbol.values) c.args.lexeme.now (c.args.lexeme.now ∷ []) c.loop-symbol.coming c.pop.new.self c.in-Some.symbol (C.Over c.in-Over.part c.in-Over.index) c.in-Some.ensures c.in-Over.is c.loop-symbol.invariant) in
    let can : CanBuild v.carrier v.held c.in-Over.part (v.made c.in-Over.part) c.in-Over.index (reverse c.loop-symbol.values) =
    U.over_can b.takes v.carrier v.made v.held b.productions g.met.G.Builds.same_productions b.rank b.weight g.met.G.Grammar.fits c.in-Over.part c.in-Over.index (reverse c.pop.new.self) (reverse c.loop-symbol.values) (moves.follows.ready c.requires.ready) in
    search rules

pub returns-in-Token : goal.returns-in-Token
returns-in-Token g c =
    let b = g.G.Grammar in
    let v = g.G.Builds in
    let moves = (U.at_newest b.takes v.carrier v.made v.held b.productions g.met.G.Builds.same_productions b.rank b.weight g.met.G.Grammar.fits (reverse c.args.coming.now) (reverse c.args.values.now) (reverse c.loop-symbol.values) c.args.lexeme.now (c.args.lexeme.now ∷ []) c.loop-symbol.coming c.pop.new.self c.in-Some.symbol (C.Token c.in-Token.terminal) c.in-Some.ensures c.in-Token.is c.loop-symbol.invariant) in
    U.turns_on b.takes v.carrier v.made v.held b.productions g.met.G.Builds.same_productions b.rank b.weight g.met.G.Grammar.fits (reverse c.args.coming.now) (C.Token c.in-Token.terminal ∷ reverse c.pop.new.self) (reverse c.pop.new.self) (reverse c.args.values.now) (reverse c.loop-symbol.values) (reverse c.take_token.new.values) c.args.lexeme.now c.in_ok-turned-in-Token.turned moves
    (U.token_turns b.takes v.carrier v.made v.held b.productions g.met.G.Builds.same_productions b.rank b.weight g.met.G.Grammar.fits c.in-Token.terminal (reverse c.pop.new.self) (reverse c.loop-symbol.values) (reverse c.take_token.new.values) c.args.lexeme.now c.in_ok-turned-in-Token.turned (b.takes c.in-Token.terminal c.args.lexeme.now) refl
    c.in_ok-turned-in-Token.ensures moves.follows.reached)

pub loop-symbol-preserved : goal.loop-symbol-preserved
loop-symbol-preserved g c =
    let b = g.G.Grammar in
    let v = g.G.Builds in
    U.over_moves b.takes v.carrier v.made v.held b.productions g.met.G.Builds.same_productions b.rank b.weight g.met.G.Grammar.fits (reverse c.args.coming.now) (reverse c.args.values.now) c.args.lexeme.now c.in-Over.part c.in-Over.index (reverse c.pop.new.self) (reverse c.loop-symbol.values) (reverse c.over.new.values) c.in_ok-over-in-Over.ensures
    (U.at_newest b.takes v.carrier v.made v.held b.productions g.met.G.Builds.same_productions b.rank b.weight g.met.G.Grammar.fits (reverse c.args.coming.now) (reverse c.args.values.now) (reverse c.loop-symbol.values) c.args.lexeme.now (c.args.lexeme.now ∷ []) c.loop-symbol.coming c.pop.new.self c.in-Some.symbol (C.Over c.in-Over.part c.in-Over.index) c.in-Some.ensures c.in-Over.is c.loop-symbol.invariant)

pub returns-in-Some-entered : goal.returns-in-Some-entered
returns-in-Some-entered g c =
    let b = g.G.Grammar in
    let v = g.G.Builds in
    let moves = (U.at_newest b.takes v.carrier v.made v.held b.productions g.met.G.Builds.same_productions b.rank b.weight g.met.G.Grammar.fits (reverse c.args.coming.now) (reverse c.args.values.now) (reverse c.loop-symbol.values) c.args.lexeme.now (c.args.lexeme.now ∷ []) c.loop-symbol.coming c.pop.new.self c.in-Some.symbol (C.Part c.in-Part.part) c.in-Some.ensures c.in-Part.is c.loop-symbol.invariant) in
    let entered = U.moves_on b.takes v.carrier v.made v.held b.productions g.met.G.Builds.same_productions b.rank b.weight g.met.G.Grammar.fits (reverse c.args.coming.now) (C.Part c.in-Part.part ∷ reverse c.pop.new.self) (C.Token c.in-Some-entered.terminal ∷ reverse c.enter.new.coming) (reverse c.args.values.now) (reverse c.loop-symbol.values) (reverse c.loop-symbol.values) c.args.lexeme.now c.args.lexeme.now (c.args.lexeme.now ∷ []) moves
    (U.enters_some b.takes v.carrier v.made v.held b.productions g.met.G.Builds.same_productions b.rank b.weight g.met.G.Grammar.fits c.in-Part.part (reverse c.pop.new.self) (reverse c.enter.new.coming) c.args.lexeme.now c.in_ok-entered-in-Part.entered c.in-Some-entered.terminal c.in-Some-entered.is c.in_ok-entered-in-Part.ensures (reverse c.loop-symbol.values)) in
    U.turns_on b.takes v.carrier v.made v.held b.productions g.met.G.Builds.same_productions b.rank b.weight g.met.G.Grammar.fits (reverse c.args.coming.now) (C.Token c.in-Some-entered.terminal ∷ reverse c.enter.new.coming) (reverse c.enter.new.coming) (reverse c.args.values.now) (reverse c.loop-symbol.values) (reverse c.take_token-in-Some-entered.new.values) c.args.lexeme.now c.in_ok-turned-in-Some-entered.turned entered
    (U.token_turns b.takes v.carrier v.made v.held b.productions g.met.G.Builds.same_productions b.rank b.weight g.met.G.Grammar.fits c.in-Some-entered.terminal (reverse c.enter.new.coming) (reverse c.loop-symbol.values) (reverse c.take_token-in-Some-entered.new.values) c.args.lexeme.now c.in_ok-turned-in-Some-entered.turned (b.takes c.in-Some-entered.terminal c.args.lexeme.now) refl
    c.in_ok-turned-in-Some-entered.ensures entered.follows.reached)

pub skip-requires-after_bounds : goal.skip-requires-after_bounds
skip-requires-after_bounds g c =
    let b = g.G.Grammar in
    let v = g.G.Builds in
    let moves = (U.at_newest b.takes v.carrier v.made v.held b.productions g.met.G.Builds.same_productions b.rank b.weight g.met.G.Grammar.fits (reverse c.args.coming.now) (reverse c.args.values.now) (reverse c.loop-symbol.values) c.args.lexeme.now (c.args.lexeme.now ∷ []) c.loop-symbol.coming c.pop.new.self c.in-Some.symbol (C.Part c.in-Part.part) c.in-Some.ensures c.in-Part.is c.loop-symbol.invariant) in
    λ _ _. U.skip_can b.takes v.carrier v.made v.held b.productions g.met.G.Builds.same_productions b.rank b.weight g.met.G.Grammar.fits c.in-Part.part (reverse c.pop.new.self) (reverse c.loop-symbol.values) (moves.follows.ready c.requires.ready)

pub returns : goal.returns
returns g c =
    let b = g.G.Grammar in
    let v = g.G.Builds in
    U.none_to_come b.takes v.carrier v.made v.held b.productions g.met.G.Builds.same_productions b.rank b.weight g.met.G.Grammar.fits (reverse c.args.coming.now) (reverse c.args.values.now) (reverse c.loop-symbol.values) c.args.lexeme.now c.loop-symbol.coming c.in_default.ensures.0 c.loop-symbol.invariant

pub returns-then-not-branch : goal.returns-then-not-branch
returns-then-not-branch g c =
    let b = g.G.Grammar in
    let v = g.G.Builds in
    U.must_come b.takes v.carrier v.made v.held b.productions g.met.G.Builds.same_productions b.rank b.weight g.met.G.Grammar.fits (reverse c.args.coming.now) (reverse c.args.values.now) c.args.lexeme.now c.in-Part.part (reverse c.pop.new.self) (reverse c.enter.new.coming) (reverse c.loop-symbol.values) (reverse c.skip.new.values)
    c.in_ok-entered-in-Part.entered c.in_ok-skip-in-None.field-0 c.in-None.is c.in_ok-entered-in-Part.ensures c.in_ok-skip-in-None.ensures
    (U.at_newest b.takes v.carrier v.made v.held b.productions g.met.G.Builds.same_productions b.rank b.weight g.met.G.Grammar.fits (reverse c.args.coming.now) (reverse c.args.values.now) (reverse c.loop-symbol.values) c.args.lexeme.now (c.args.lexeme.now ∷ []) c.loop-symbol.coming c.pop.new.self c.in-Some.symbol (C.Part c.in-Part.part) c.in-Some.ensures c.in-Part.is c.loop-symbol.invariant) c.if-not-branch.true

pub loop-symbol-preserved-else-not-branch : goal.loop-symbol-preserved-else-not-branch
loop-symbol-preserved-else-not-branch g c =
    let b = g.G.Grammar in
    let v = g.G.Builds in
    U.leaves_out b.takes v.carrier v.made v.held b.productions g.met.G.Builds.same_productions b.rank b.weight g.met.G.Grammar.fits (reverse c.args.coming.now) (reverse c.args.values.now) c.args.lexeme.now c.in-Part.part (reverse c.pop.new.self) (reverse c.enter.new.coming) (reverse c.loop-symbol.values) (reverse c.skip.new.values)
    c.in_ok-entered-in-Part.entered c.in_ok-skip-in-None.field-0 c.in-None.is c.in_ok-entered-in-Part.ensures c.in_ok-skip-in-None.ensures
    (U.at_newest b.takes v.carrier v.made v.held b.productions g.met.G.Builds.same_productions b.rank b.weight g.met.G.Grammar.fits (reverse c.args.coming.now) (reverse c.args.values.now) (reverse c.loop-symbol.values) c.args.lexeme.now (c.args.lexeme.now ∷ []) c.loop-symbol.coming c.pop.new.self c.in-Some.symbol (C.Part c.in-Part.part) c.in-Some.ensures c.in-Part.is c.loop-symbol.invariant) c.if-not-branch.false
