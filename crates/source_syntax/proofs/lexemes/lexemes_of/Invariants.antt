-- The lexemes of the tokens so far, and those of the tokens to come, are all lexemes.
use Rattle.std.proofs.Common.{◌≡◌, ◌++◌, drop}
use Rattle.std.specs.Prelude.{None, All}
use Rattle.rust_lex.specs.Slices.{IsTokenOf}
use Rattle.source_syntax.specs.Spelled as spec
use Rattle.source_syntax.proofs.lexemes.lexemes_of.Given as goal

abbrev pub invariant-loop-token : goal.invariant-loop-token
invariant-loop-token l =
    (l.lexemes ++ spec.lexemes l.text l.dot (drop l.token-index l.tokens) ≡ spec.lexemes l.text None l.tokens)
    × All (IsTokenOf l.text) (drop l.token-index l.tokens)
