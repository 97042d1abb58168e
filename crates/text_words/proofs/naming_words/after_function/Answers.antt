use Rattle.std.proofs.Common.{◌∙◌, ap}
use Rattle.std.specs.Prelude.{codes}
use Rattle.std.specs.Option.{option_map}
use Rattle.text_meaning.specs.Lookups.{function_name}
use Rattle.text_meaning.specs.ShownNames.{name_text}
use Rattle.text_words.specs.Pieces.{after}
use Rattle.text_words.proofs.Pieces.{after_both}
use Rattle.text_words.proofs.naming_words.after_function.Goals as goal

pub returns : goal.returns
returns c =
    after_both (codes "fn.") (name_text (function_name c.args.defs.now c.args.f.0)) c.args.text.now c.in_ok-text.text.now (option_map (λ s. s.now) c.after_name.result)
    c.in_ok-text.ensures (c.after_name.ensures ∙ ap (λ n. after (name_text n) c.in_ok-text.text.now) c.function_name.ensures)
