use Rattle.std.proofs.Common.{arith}
use Rattle.std.proofs.lemmas.Str.{IsCharBoundary-from_drop}
use Rattle.text_tokens.proofs.marked.is_identifier.Goals as goal

pub ident_end-requires : goal.ident_end-requires
ident_end-requires c = IsCharBoundary-from_drop c.args.text.now 0 (omega arith) c.utf8.text
