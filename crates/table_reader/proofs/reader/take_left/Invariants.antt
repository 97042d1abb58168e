-- Each front leaves less of the lexeme.
use Rattle.std.proofs.Common.{[], ◌∷◌, reverse}
use Rattle.table_reader.specs.Machine.{Moves}
use Rattle.table_reader.proofs.reader.take_left.Given as goal

abbrev pub invariant-loop-piece : goal.invariant-loop-piece
invariant-loop-piece g l =
    let b = g.G.Grammar in
    let v = g.G.Builds in
    Moves b.takes v.carrier v.made v.held b.productions b.rank b.weight (reverse l.fn.coming) (reverse l.fn.values) l.fn.lexeme (reverse l.coming) (reverse l.values) (l.piece ∷ [])

abbrev pub decreases-loop-piece : goal.decreases-loop-piece
decreases-loop-piece g l = g.G.Grammar.weight l.piece
