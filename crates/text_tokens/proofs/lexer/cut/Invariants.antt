use Rattle.std.proofs.Common.{◌≡◌, ◌-◌}
use Rattle.text_tokens.specs.Scan as spec
use Rattle.text_tokens.proofs.lexer.cut.Given as goal

abbrev pub invariant-loop-turn : goal.invariant-loop-turn
invariant-loop-turn l = spec.prepend l.list (spec.cut l.end (l.end - l._turn) l.lexer.rest.now) ≡ spec.cut_text l.text
