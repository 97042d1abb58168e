-- After a front the lexeme is left to what is to come.
use Rattle.std.proofs.Common.{rules, reverse}
use Rattle.table_reader.specs.Machine.{IsReached, IsReady, symbols}
use Rattle.table_reader.proofs.Turning as U
use Rattle.table_reader.proofs.reader.take.Goals as goal

pub take_left-requires : goal.take_left-requires
take_left-requires g c =
    let b = g.G.Grammar in
    let v = g.G.Builds in
    let moves = (U.at_left b.takes v.carrier v.made v.held b.productions g.met.G.Builds.same_productions b.rank b.weight g.met.G.Grammar.fits (reverse c.args.coming.now) (reverse c.turn.new.coming) (reverse c.args.values.now) (reverse c.turn.new.values) c.args.lexeme.now c.in-Left.piece c.in_ok-turn.field-0 c.in-Left.is c.in_ok-turn.ensures) in
    let reached : IsReached b.productions (symbols (reverse c.turn.new.coming)) = moves.0.follows.reached in
    let ready : IsReady v.carrier v.made v.held (reverse c.turn.new.coming) (reverse c.turn.new.values) = moves.0.follows.ready c.requires.ready in
    search rules

pub returns-in_ok-taken-in-Left : goal.returns-in_ok-taken-in-Left
returns-in_ok-taken-in-Left g c =
    let b = g.G.Grammar in
    let v = g.G.Builds in
    U.takes_on b.takes v.carrier v.made v.held b.productions g.met.G.Builds.same_productions b.rank b.weight g.met.G.Grammar.fits (reverse c.args.coming.now) (reverse c.turn.new.coming) (reverse c.take_left.new.coming) (reverse c.args.values.now) (reverse c.turn.new.values) (reverse c.take_left.new.values) c.args.lexeme.now c.in-Left.piece
    c.in_ok-taken-in-Left.taken (U.at_left b.takes v.carrier v.made v.held b.productions g.met.G.Builds.same_productions b.rank b.weight g.met.G.Grammar.fits (reverse c.args.coming.now) (reverse c.turn.new.coming) (reverse c.args.values.now) (reverse c.turn.new.values) c.args.lexeme.now c.in-Left.piece c.in_ok-turn.field-0 c.in-Left.is c.in_ok-turn.ensures).0 c.in_ok-taken-in-Left.ensures
