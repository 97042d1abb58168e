use Rattle.std.proofs.Common.{sym, ◌∙◌, arith}
use Rattle.aeneas.proofs.FuelLemmas.{small_fuel, no_fuel}
use Rattle.aeneas.proofs.fuel.fuel_number.Goals as goal

pub overflow_cast-result : goal.overflow_cast-result
overflow_cast-result c = let small = small_fuel c.args.word.now c.in-Some.number (omega arith) (sym c.decimal.ensures ∙ c.in-Some.is) in omega arith

pub returns-in-None : goal.returns-in-None
returns-in-None c = no_fuel c.args.word.now (omega arith) (sym c.decimal.ensures ∙ c.in-None.is)
