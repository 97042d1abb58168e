use Rattle.std.proofs.Common.{length}
use Rattle.mach_mem.proofs.trees.MTree.+part_at.Given as goal

abbrev pub decreases-part_at : goal.decreases-part_at
decreases-part_at l = length l.steps.now
