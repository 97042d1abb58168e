-- A node's parts are smaller than the node.
-- Made by tools/code.py from tools/mach_mem.desc.py.
use Rattle.std.specs.Prelude.{ℕ, ◌+◌, ◌*◌, ◌≤◌, List, [], ◌∷◌}
use Rattle.std.proofs.Common.{arith}
use denote.Param.Weighed.{most, w_this}
use Rattle.mach_mem.specs.Trees as t
use Rattle.mach_mem.specs.TreesView.{mtree_of}
use Rattle.mach_mem.specs.declared.trees.MTree.TheDeep.{deep-MTreeNode, size-MTree}
use Rattle.mach_mem.specs.declared.trees.MTreeNode.{MTreeNode}
use Rattle.mach_mem.specs.declared.trees.MTreeNode.TheVariants as MTree_

most_mtrees : (xs : List t.MTree) → most (λ x. t.nodes_mtree x + 1) xs ≤ t.nodes_mtrees (t.mtrees xs) + 1
most_mtrees [] = omega arith
most_mtrees (x ∷ xs) = omega (arith, most_mtrees xs)

abbrev size_mtrees : t.MTree → ℕ
size_mtrees = w_this.weight t.MTree size-MTree

pub drop_mtrees : (xs : List t.MTree) → most size_mtrees xs ≤ 2 * t.nodes_mtrees (t.mtrees xs)
drop_mtrees [] = omega arith
drop_mtrees (x ∷ xs) = omega (arith, drop_mtrees xs)

pub mtree_falls : (e : MTreeNode) → deep-MTreeNode e ≤ t.nodes_mtree (mtree_of e)
mtree_falls (MTree_.Tuple a0) = omega (arith, most_mtrees a0)
mtree_falls (MTree_.Ctor a0 a1 a2) = omega (arith, most_mtrees a2)
mtree_falls _ = omega arith
