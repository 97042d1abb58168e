-- What contracts see of a node: the tree with what its lists and boxes hold.
-- Made by tools/code.py from tools/mach_mem.desc.py.
use Rattle.mach_mem.specs.Trees as t
use Rattle.mach_mem.specs.Cells.{cell_number}
use Rattle.mach_mem.specs.declared.trees.MTreeNode.{MTreeNode}
use Rattle.mach_mem.specs.declared.trees.MTreeNode.TheVariants as MTree_

abbrev pub mtree_of : MTreeNode → t.MTree
mtree_of (MTree_.Num a0) = t.whole a0
mtree_of (MTree_.Bool a0) = t.truth a0
mtree_of (MTree_.Tuple a0) = t.tuple (t.mtrees a0)
mtree_of (MTree_.Ctor a0 a1 a2) = t.ctor a0 a1 (t.mtrees a2)
mtree_of (MTree_.BoxAt a0) = t.box_at (cell_number a0)
mtree_of (MTree_.Ptr a0) = t.ptr a0
