-- A minus stands first.
use Rattle.std.proofs.Common.{◌∙◌}
use Rattle.text_names.proofs.Spelling.{number_minus}
use Rattle.text_names.proofs.digits.number_of.Goals as goal

pub returns-then-first-eq45 : goal.returns-then-first-eq45
returns-then-first-eq45 c = c.below_zero.ensures ∙ number_minus c.args.digits.now c.args.ty c.in-len1-up.len_at_least c.if-first-eq45.true
