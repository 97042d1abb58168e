use Rattle.std.proofs.Common.{arith}
use Rattle.mach_mem.proofs.Items.{item}
use Rattle.mach_mem.proofs.copy.+copy.Goals as goal

pub copy_trees-copy_tree-requires : goal.copy_trees-copy_tree-requires
copy_trees-copy_tree-requires t c =
    let h = item c.args.trees.now c.loop-tree.tree-index c.tree-item.result (omega arith) c.tree-item.is in
    (omega (arith, h), tt)
