-- A step takes at least one turn.
use Rattle.pure_eval.specs.Costs.{longest}
use Rattle.pure_eval.proofs.Weights.{weighs}
use Rattle.pure_eval.proofs.turns.call.Goals as goal

pub returns-in-Answered-clause-cost : goal.returns-in-Answered-clause-cost
returns-in-Answered-clause-cost c = weighs (longest c.args.defs.now) c.args.fuel
