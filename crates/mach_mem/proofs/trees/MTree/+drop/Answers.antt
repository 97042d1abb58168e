-- A list that is dropped is smaller than the whole.
-- Made by tools/code.py from tools/mach_mem.desc.py.
use Rattle.std.proofs.Common.{◌≡◌, ap, arith, rules}
use Rattle.mach_mem.specs.Trees.{nodes_mtree}
use Rattle.mach_mem.specs.TreesView.{mtree_of}
use Rattle.mach_mem.specs.TreesFalls.{drop_mtrees}
use Rattle.mach_mem.specs.declared.trees.MTree.TheDeep.{size-MTree}
use Rattle.mach_mem.proofs.trees.MTree.+drop.Goals as goal

pub drop-tuple-requires : goal.drop-tuple-requires
drop-tuple-requires t c κs =
    let same = ap nodes_mtree c.self.view_is in
    let node = ap (λ n. nodes_mtree (mtree_of n)) c.in-Tuple.is in
    let whole : size-MTree c.args.self ≡ t = c.decreases in
    let parts = drop_mtrees c.in-Tuple._tuple in
    ((omega (arith, same, node, whole, parts), tt), search rules)

pub drop-ctor-requires : goal.drop-ctor-requires
drop-ctor-requires t c κs =
    let same = ap nodes_mtree c.self.view_is in
    let node = ap (λ n. nodes_mtree (mtree_of n)) c.in-Ctor.is in
    let whole : size-MTree c.args.self ≡ t = c.decreases in
    let parts = drop_mtrees c.in-Ctor._ctor in
    ((omega (arith, same, node, whole, parts), tt), search rules)
