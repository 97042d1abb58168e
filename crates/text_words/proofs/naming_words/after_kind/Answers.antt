use Rattle.std.proofs.Common.{◌∙◌, ap, sym}
use Rattle.std.specs.Prelude.{◌++◌, codes}
use Rattle.std.specs.Fmt.{decimal}
use Rattle.std.specs.Option.{option_map}
use Rattle.text_meaning.specs.ShownNames.{function_text, kind_text}
use Rattle.text_words.specs.Pieces.{after}
use Rattle.text_words.proofs.Pieces.{after_both, after_none}
use Rattle.text_words.proofs.naming_words.after_kind.Goals as goal

pub returns-in_err-text-in-Back : goal.returns-in_err-text-in-Back
returns-in_err-text-in-Back c =
    after_none (function_text c.args.defs.now c.in-Back.f.0) (codes ".back" ++ decimal c.in-Back.region.0) c.args.text.now
    (option_map (λ s. s.now) c.from_residual.result) c.in_err-text-in-Back.ensures (ap (option_map (λ s. s.now)) c.from_residual.ensures)
    ∙ ap (λ k. after (kind_text c.args.defs.now k) c.args.text.now) (sym c.in-Back.is)

pub returns-in_ok-text-in-Back : goal.returns-in_ok-text-in-Back
returns-in_ok-text-in-Back c =
    after_both (function_text c.args.defs.now c.in-Back.f.0) (codes ".back" ++ decimal c.in-Back.region.0) c.args.text.now c.in_ok-text-in-Back.text.now
    (option_map (λ s. s.now) c.after_number.result) c.in_ok-text-in-Back.ensures c.after_number.ensures
    ∙ ap (λ k. after (kind_text c.args.defs.now k) c.args.text.now) (sym c.in-Back.is)

pub returns-in_err-text-in-Loop : goal.returns-in_err-text-in-Loop
returns-in_err-text-in-Loop c =
    after_none (function_text c.args.defs.now c.in-Loop.f.0) (codes ".loop" ++ decimal c.in-Loop.place.0) c.args.text.now
    (option_map (λ s. s.now) c.from_residual-in_err-text-in-Loop.result) c.in_err-text-in-Loop.ensures (ap (option_map (λ s. s.now)) c.from_residual-in_err-text-in-Loop.ensures)
    ∙ ap (λ k. after (kind_text c.args.defs.now k) c.args.text.now) (sym c.in-Loop.is)

pub returns-in_ok-text-in-Loop : goal.returns-in_ok-text-in-Loop
returns-in_ok-text-in-Loop c =
    after_both (function_text c.args.defs.now c.in-Loop.f.0) (codes ".loop" ++ decimal c.in-Loop.place.0) c.args.text.now c.in_ok-text-in-Loop.text.now
    (option_map (λ s. s.now) c.after_number-in-Loop.result) c.in_ok-text-in-Loop.ensures c.after_number-in-Loop.ensures
    ∙ ap (λ k. after (kind_text c.args.defs.now k) c.args.text.now) (sym c.in-Loop.is)

pub returns-in_err-text-in-LoopBack : goal.returns-in_err-text-in-LoopBack
returns-in_err-text-in-LoopBack c =
    after_none (function_text c.args.defs.now c.in-LoopBack.f.0) (codes ".loop" ++ (decimal c.in-LoopBack.place.0 ++ (codes ".back" ++ decimal c.in-LoopBack.class))) c.args.text.now
    (option_map (λ s. s.now) c.from_residual-in_err-text-in-LoopBack.result) c.in_err-text-in-LoopBack.ensures (ap (option_map (λ s. s.now)) c.from_residual-in_err-text-in-LoopBack.ensures)
    ∙ ap (λ k. after (kind_text c.args.defs.now k) c.args.text.now) (sym c.in-LoopBack.is)

pub returns-in_ok-text-in-LoopBack : goal.returns-in_ok-text-in-LoopBack
returns-in_ok-text-in-LoopBack c =
    after_both (function_text c.args.defs.now c.in-LoopBack.f.0) (codes ".loop" ++ (decimal c.in-LoopBack.place.0 ++ (codes ".back" ++ decimal c.in-LoopBack.class))) c.args.text.now c.in_ok-text-in-LoopBack.text.now
    (option_map (λ s. s.now) c.after_class.result) c.in_ok-text-in-LoopBack.ensures c.after_class.ensures
    ∙ ap (λ k. after (kind_text c.args.defs.now k) c.args.text.now) (sym c.in-LoopBack.is)
