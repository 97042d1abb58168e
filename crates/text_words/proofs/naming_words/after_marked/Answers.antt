use Rattle.std.specs.Prelude.{[], ◌∷◌, ◌++◌}
use Rattle.std.specs.Option.{option_map}
use Rattle.text_words.proofs.Pieces.{after_both}
use Rattle.text_words.proofs.naming_words.after_marked.Goals as goal

pub returns : goal.returns
returns c =
    after_both (194 ∷ 171 ∷ []) (c.args.name.now ++ 194 ∷ 187 ∷ []) c.args.text.now c.in_ok-text.text.now (option_map (λ s. s.now) c.after_both.result)
    c.in_ok-text.ensures c.after_both.ensures
