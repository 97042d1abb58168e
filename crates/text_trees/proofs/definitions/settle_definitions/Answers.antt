-- One more is told, and its kind is declared.
use Rattle.std.proofs.Common.{[]}
use Rattle.text_trees.specs.Definitions.{definitions_told}
use Rattle.text_trees.proofs.Declaring.{defined_turn}
use Rattle.text_trees.proofs.definitions.settle_definitions.Goals as goal

pub loop-i-preserved : goal.loop-i-preserved
loop-i-preserved c =
    defined_turn c.args.tables.now c.args.types.now c.loop-i.kinds c.in_ok-kinds.kinds c.args.raw.now c.loop-i.i c.index-raw-i.result c.in_ok-def.def
    c.loop-i.done c.push.new.self (definitions_told c.args.tables.now c.args.types.now [] c.args.raw.now)
    c.loop-i-test.true c.index-raw-i.is c.in_ok-def.ensures c.in_ok-kinds.ensures c.in_ok-push.ensures.ok c.loop-i.invariant
