-- There is a node for the end of a list.
use Rattle.std.proofs.Common.{arith}
use Rattle.text_trees.proofs.Counting.{some_nodes}
use Rattle.text_trees.proofs.types.begin_named.Goals as goal

pub returns-in-Parameter-clause-cost : goal.returns-in-Parameter-clause-cost
returns-in-Parameter-clause-cost c = let h = some_nodes c.args.arguments.now in omega (arith, h)
