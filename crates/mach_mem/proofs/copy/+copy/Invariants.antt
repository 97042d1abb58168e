use Rattle.std.proofs.Common.{◌≡◌, ◌*◌, take}
use Rattle.mach_mem.specs.Trees.{mtrees, nodes_mtree, nodes_mtrees}
use Rattle.mach_mem.proofs.copy.+copy.Given as goal

abbrev pub decreases-copy_tree : goal.decreases-copy_tree
decreases-copy_tree l = 2 * nodes_mtree l.tree.now

abbrev pub decreases-copy_trees : goal.decreases-copy_trees
decreases-copy_trees l = 2 * nodes_mtrees (mtrees l.trees.now)

abbrev pub invariant-copy_trees-loop-tree : goal.invariant-copy_trees-loop-tree
invariant-copy_trees-loop-tree l = l.all ≡ take l.tree-index l.trees
