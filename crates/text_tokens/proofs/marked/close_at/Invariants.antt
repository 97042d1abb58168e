use Rattle.std.proofs.Common.{◌≡◌, ◌+◌, drop}
use Rattle.std.specs.Option.{option_map}
use Rattle.text_tokens.specs.Fronts.{close_at}
use Rattle.text_tokens.proofs.marked.close_at.Given as goal

abbrev pub invariant-loop-at : goal.invariant-loop-at
invariant-loop-at l = option_map (λ n. l.at + n) (close_at (drop l.at l.bytes)) ≡ close_at l.bytes
