use Rattle.std.proofs.Common.{◌∙◌, ap, append_assoc}
use Rattle.std.specs.Prelude.{◌++◌, codes}
use Rattle.std.specs.Fmt.{decimal}
use Rattle.std.specs.Option.{option_map}
use Rattle.text_words.specs.Pieces.{after}
use Rattle.text_words.proofs.Pieces.{after_both, after_none}
use Rattle.text_words.proofs.naming_words.after_class.Goals as goal

pub returns : goal.returns
returns c =
    after_both (codes ".loop" ++ decimal c.args.place) (codes ".back" ++ decimal c.args.class) c.args.text.now c.in_ok-text.text.now
    (option_map (λ s. s.now) c.after_number-2.result) c.in_ok-text.ensures c.after_number-2.ensures
    ∙ ap (λ l. after l c.args.text.now) (append_assoc (codes ".loop") (decimal c.args.place) (codes ".back" ++ decimal c.args.class))

pub returns-in_err-text : goal.returns-in_err-text
returns-in_err-text c =
    after_none (codes ".loop" ++ decimal c.args.place) (codes ".back" ++ decimal c.args.class) c.args.text.now
    (option_map (λ s. s.now) c.from_residual.result) c.in_err-text.ensures (ap (option_map (λ s. s.now)) c.from_residual.ensures)
    ∙ ap (λ l. after l c.args.text.now) (append_assoc (codes ".loop") (decimal c.args.place) (codes ".back" ++ decimal c.args.class))
