use Rattle.type_suits.specs.Arms as arms
use Rattle.type_suits.proofs.laws.arms_suit.Goals as goal

pub returns : goal.returns
returns c = λ s y k x found st r h. arms.arms_suit s y k x found st r h
