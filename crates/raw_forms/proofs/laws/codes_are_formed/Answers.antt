-- Code in which no rule is broken is well-formed.
use Rattle.raw_forms.specs.Codes.{code_formed}
use Rattle.raw_forms.proofs.laws.codes_are_formed.Goals as goal

pub returns : goal.returns
returns c = λ h x s e. code_formed h x s e
