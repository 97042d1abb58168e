use Rattle.type_suits.specs.Suiting as suiting
use Rattle.type_suits.proofs.laws.pattern_suits.Goals as goal

pub returns : goal.returns
returns c = λ ds y m ts b ts2 x part h. suiting.pattern_suits ds y ts m x (b, ts2) part h
