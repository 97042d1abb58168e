-- What is left comes before what was taken off.
use Rattle.std.proofs.Common.{◌≡◌, ◌++◌, map, reverse, length}
use Rattle.text_syntax.specs.Classing as spec
use Rattle.text_syntax.proofs.classing.lexemes_of.Given as goal

abbrev pub invariant-loop-lexeme : goal.invariant-loop-lexeme
invariant-loop-lexeme l = map spec.lexeme_of l.left ++ reverse l.classed.items ≡ map spec.lexeme_of l.fn.lexemes

abbrev pub decreases-loop-lexeme : goal.decreases-loop-lexeme
decreases-loop-lexeme l = length l.left
