use Rattle.std.proofs.Common.{◌∙◌, sym, ap}
use Rattle.text_tokens.specs.Fronts.{begins_two}
use Rattle.text_tokens.proofs.Fronting.{close_turn}
use Rattle.text_tokens.proofs.marked.close_at.Goals as goal

pub loop-at-preserved : goal.loop-at-preserved
loop-at-preserved c = close_turn c.args.bytes.now c.loop-at.at c.loop-at-test.true (ap (begins_two 194 187) (sym c.after.ensures) ∙ sym c.begins_two.ensures ∙ c.if-begins_two.false) ∙ c.loop-at.invariant
