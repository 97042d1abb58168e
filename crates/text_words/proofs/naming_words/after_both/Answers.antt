use Rattle.std.proofs.Common.{ap}
use Rattle.std.specs.Option.{option_map}
use Rattle.text_words.proofs.Pieces.{after_both, after_none}
use Rattle.text_words.proofs.naming_words.after_both.Goals as goal

pub returns-in_err-text : goal.returns-in_err-text
returns-in_err-text c =
    after_none c.args.first.now c.args.second.now c.args.text.now (option_map (λ s. s.now) c.from_residual.result)
    c.in_err-text.ensures (ap (option_map (λ s. s.now)) c.from_residual.ensures)

pub returns : goal.returns
returns c =
    after_both c.args.first.now c.args.second.now c.args.text.now c.in_ok-text.text.now (option_map (λ s. s.now) c.after-2.result)
    c.in_ok-text.ensures c.after-2.ensures
