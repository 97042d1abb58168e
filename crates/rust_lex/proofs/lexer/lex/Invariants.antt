use Rattle.std.proofs.Common.{length, ◌-◌}
use Rattle.rust_lex.proofs.LexingLemmas.{Reads}
use Rattle.rust_lex.proofs.lexer.lex.Given as goal

abbrev pub invariant-reading : goal.invariant-reading
invariant-reading l = Reads l.text l.list l.at l.after_dot

abbrev pub decreases-reading : goal.decreases-reading
decreases-reading l = length l.text - l.at
