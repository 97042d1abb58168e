-- Each turn adds a space.
use Rattle.std.proofs.Common.{◌∙◌, ap, ◌++◌, [], ◌∷◌, string_bytes}
use Rattle.lean_printer.proofs.Joins.{line_more}
use Rattle.lean_printer.proofs.put.put_line.Goals as goal

pub loop-space-preserved : goal.loop-space-preserved
loop-space-preserved c = c.in_ok-put-2.ensures ∙ ap (λ l. l ++ (32 ∷ [])) c.loop-space.invariant ∙ line_more (string_bytes c.args.out.now) c.loop-space._space
