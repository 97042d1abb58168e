use Rattle.std.proofs.Common.{◌≡◌, drop, false}
use Rattle.rust_lex.specs.Scan as scan
use Rattle.rust_lex.proofs.comments.string_end.Given as goal

abbrev pub invariant-loop-at : goal.invariant-loop-at
invariant-loop-at l = scan.after_string l.taken (drop l.at l.bytes) ≡ scan.after_string false l.bytes
