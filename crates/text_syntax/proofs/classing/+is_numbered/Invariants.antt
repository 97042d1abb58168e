-- Each turn takes one byte of both.
use Rattle.std.proofs.Common.{length}
use Rattle.text_syntax.proofs.classing.+is_numbered.Given as goal

abbrev pub decreases-is_numbered : goal.decreases-is_numbered
decreases-is_numbered l = length l.prefix.now
