use Rattle.mach_mem.proofs.Filled.{of_tree}
use Rattle.mach_mem.proofs.memory.fill_slot.Goals as goal

pub returns-in-Some : goal.returns-in-Some
returns-in-Some c =
    of_tree c.args.slot.now c.args.steps.now c.args.new c.in-Some.tree c.exchange.new.tree c.exchange.result c.in-Some.is c.exchange.ensures
