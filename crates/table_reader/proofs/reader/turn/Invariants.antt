-- What was built leaves the lexeme to what is to come.
use Rattle.std.proofs.Common.{[], ◌∷◌, reverse, length}
use Rattle.table_reader.specs.Machine.{Moves}
use Rattle.table_reader.proofs.reader.turn.Given as goal

abbrev pub invariant-loop-symbol : goal.invariant-loop-symbol
invariant-loop-symbol g l =
    let b = g.G.Grammar in
    let v = g.G.Builds in
    Moves b.takes v.carrier v.made v.held b.productions b.rank b.weight (reverse l.fn.coming) (reverse l.fn.values) l.lexeme (reverse l.coming) (reverse l.values) (l.lexeme ∷ [])

abbrev pub decreases-loop-symbol : goal.decreases-loop-symbol
decreases-loop-symbol g l = length l.coming
