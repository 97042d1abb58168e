use Rattle.std.proofs.Common.{ap, sym, ◌∙◌}
use Rattle.mach_mem.specs.Memory.{child}
use Rattle.mach_mem.specs.TreesView.{mtree_of}
use Rattle.mach_mem.proofs.Exchanged.{nth_list}
use Rattle.mach_mem.proofs.trees.MTree.child.Goals as goal

pub returns-in-Tuple : goal.returns-in-Tuple
returns-in-Tuple c =
    c.get.ensures.value ∙ sym (nth_list c.in-Tuple.parts c.args.k) ∙ ap (child c.args.k) (sym (ap mtree_of c.in-Tuple.is) ∙ c.self.view_is)

pub returns-in-Ctor : goal.returns-in-Ctor
returns-in-Ctor c =
    c.get-in-Ctor.ensures.value ∙ sym (nth_list c.in-Ctor.parts c.args.k) ∙ ap (child c.args.k) (sym (ap mtree_of c.in-Ctor.is) ∙ c.self.view_is)
