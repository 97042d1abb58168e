-- No excluded word stands before this token.
use Rattle.std.proofs.Common.{◌≡◌, drop}
use Rattle.source_syntax.specs.Refusals as spec
use Rattle.source_syntax.proofs.syntax.first_excluded.Given as goal

abbrev pub invariant-loop-token : goal.invariant-loop-token
invariant-loop-token l = spec.first_excluded (drop l.token-index l.tokens) ≡ spec.first_excluded l.tokens
