-- The lexemes that are left and the brackets that are open decide.
use Rattle.std.proofs.Common.{◌≡◌, drop}
use Rattle.text_syntax.specs.Brackets.{few_lexemes}
use Rattle.text_syntax.proofs.brackets.has_few_brackets.Given as goal

abbrev pub invariant-loop-token : goal.invariant-loop-token
invariant-loop-token l = few_lexemes l.held (drop l.token-index l.tokens) ≡ few_lexemes 0 l.tokens
