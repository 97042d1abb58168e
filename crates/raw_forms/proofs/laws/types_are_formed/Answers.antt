-- Types in which no rule is broken are well-formed.
use Rattle.raw_forms.specs.Types.{type_formed}
use Rattle.raw_forms.proofs.laws.types_are_formed.Goals as goal

pub returns : goal.returns
returns c = λ h ps t s e. type_formed h ps t s e
