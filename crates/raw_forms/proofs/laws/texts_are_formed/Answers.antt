-- Texts in which no rule is broken stand for well-formed definitions.
use Rattle.raw_forms.specs.TextForms.{text_formed}
use Rattle.raw_forms.proofs.laws.texts_are_formed.Goals as goal

pub returns : goal.returns
returns c = λ text s n e. text_formed text s n e
