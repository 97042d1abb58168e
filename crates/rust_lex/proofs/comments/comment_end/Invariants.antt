use Rattle.std.proofs.Common.{length, ◌-◌, ◌≡◌, ◌≤◌, drop}
use Rattle.rust_lex.specs.Scan as scan
use Rattle.rust_lex.proofs.comments.comment_end.Given as goal

abbrev pub invariant-loop-at : goal.invariant-loop-at
invariant-loop-at l = (l.at ≤ length l.bytes) × (l.open ≤ l.at) × (scan.after_comment l.open (drop l.at l.bytes) ≡ scan.after_comment 0 l.bytes)

abbrev pub decreases-loop-at : goal.decreases-loop-at
decreases-loop-at l = length l.bytes - l.at
