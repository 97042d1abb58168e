use Rattle.mach_mem.proofs.Filled.{of_empty}
use Rattle.mach_mem.proofs.memory.fill_empty.Goals as goal

pub returns-then-is_empty : goal.returns-then-is_empty
returns-then-is_empty c =
    of_empty c.args.slot.now c.args.steps.now c.args.new c.unit.result c.requires c.if-is_empty.ensures c.unit.ensures
