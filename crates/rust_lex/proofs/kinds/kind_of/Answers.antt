use Rattle.rust_lex.proofs.LongestSlices.{quote_boundary}
use Rattle.rust_lex.proofs.kinds.kind_of.Goals as goal

pub skip-requires : goal.skip-requires
skip-requires c = quote_boundary c.args.w.now c.utf8.w (c.requires c.in-Lifetime.is)
