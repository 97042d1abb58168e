-- A word that ends too soon has no such prefix.
use Rattle.std.proofs.Common.{sym, ◌∙◌}
use Rattle.text_names.proofs.Prefixes.{ends}
use Rattle.text_names.proofs.numbered.after_prefix.Goals as goal

pub returns-in-empty : goal.returns-in-empty
returns-in-empty c = sym (ends c.args.prefix.now c.loop-byte.left.now c.loop-byte.byte-index c.loop-byte-test.true c.in-empty.len_below) ∙ c.loop-byte.invariant
