use Rattle.std.proofs.Common.{ap, sym, ◌∙◌}
use Rattle.mach_mem.specs.contracts.trees.MTree.{the_view}
use Rattle.mach_mem.specs.Memory.{child}
use Rattle.mach_mem.specs.TreesView.{mtree_of}
use Rattle.mach_mem.proofs.Exchanged.{of_tuple, of_ctor, of_item, no_child, of_leaf}
use Rattle.mach_mem.proofs.exchange.+exchange.Goals.{exchange-in-Tuple, exchange-in-Ctor, exchange-in_default}
use Rattle.mach_mem.proofs.exchange.+exchange.Goals as goal

pub exchange-returns-after-tree : goal.exchange-returns-after-tree
exchange-returns-after-tree t c =
    elim c.match-tree.branch [
      | exchange-in-Tuple w ↦
          let h = w.exchange_in.ensures in
          of_tuple c.in-Some.step.now c.in-Some.rest.now w.in-Tuple.parts w.exchange_in.new.parts c.args.new w.exchange_in.result h
          c.args.steps.now c.args.tree.now (the_view c.match-tree.tree-inside) c.match-tree.result c.in-Some.ensures.cases.0 w.result-is
          (sym c.tree.view_is ∙ ap mtree_of w.in-Tuple.is) (ap the_view w.tree-inside-is)
      | exchange-in-Ctor w ↦
          let h = w.exchange_in-in-Ctor.ensures in
          of_ctor c.in-Some.step.now c.in-Some.rest.now w.in-Ctor.parts w.exchange_in-in-Ctor.new.parts c.args.new w.exchange_in-in-Ctor.result h
          c.args.steps.now c.args.tree.now (the_view c.match-tree.tree-inside) c.match-tree.result c.in-Some.ensures.cases.0 w.result-is
          w.in-Ctor.field-0 w.in-Ctor.field-1 (sym c.tree.view_is ∙ ap mtree_of w.in-Ctor.is) (ap the_view w.tree-inside-is)
      | exchange-in_default w ↦
          let none = no_child c.tree.inside.node c.in-Some.step.now w.in_default.not-Tuple w.in_default.not-Ctor in
          of_leaf c.in-Some.step.now c.in-Some.rest.now c.args.steps.now c.args.new c.args.tree.now (the_view c.match-tree.tree-inside) c.match-tree.result
          c.in-Some.ensures.cases.0 (ap (child c.in-Some.step.now) (sym c.tree.view_is) ∙ none) (ap the_view w.tree-inside-is ∙ c.tree.view_is) w.result-is
    ]

pub exchange_in-returns-in-Some : goal.exchange_in-returns-in-Some
exchange_in-returns-in-Some t c =
    of_item c.args.rest.now c.args.parts.now c.args.step c.in-Some.part.now c.exchange.new.tree c.args.new (sym c.in-Some.ensures.value) c.exchange.result c.exchange.ensures
