use Rattle.lean_printer.specs.declared.values.Piece.TheVariants as P
use Rattle.lean_printer.proofs.Stacked.{both_text}
use Rattle.lean_printer.proofs.values.push_both.Goals as goal

pub returns-clause-text : goal.returns-clause-text
returns-clause-text c = λ defs. both_text defs c.args.stack.now c.push.new.self c.push-2.new.self c.args.after (P.Value c.args.first) c.in_ok-push.ensures.ok c.in_ok-push-2.ensures.ok
