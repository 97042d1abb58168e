use Rattle.std.proofs.Common.{List, ◌∷◌, [], ◌++◌, ap, sym, subst, ◌∙◌, arith}
use Rattle.pure_ast.specs.Terms.{Term}
use Rattle.source_meaning.specs.SizeLemmas.{exprs_item}
use Rattle.translate.proofs.Items.{drop_item}
use Rattle.translate.proofs.Steps.{AlongAll, along_last, along_next, along_all_start, along_all_next}
use Rattle.translate.proofs.expression.+expression.Goals as goal

pub arguments-loop-item-init : goal.arguments-loop-item-init
arguments-loop-item-init t c =
    subst (λ (l : List Term). AlongAll c.args.emitter.now c.args.emitter.now c.args.atoms.now c.args.items.now 0 l) (sym c.new-parts.ensures)
    (along_all_start c.args.emitter.now c.args.atoms.now c.args.items.now)

pub arguments-expression-requires : goal.arguments-expression-requires
arguments-expression-requires t c =
    let h = exprs_item c.args.items.now c.loop-item.item-index c.item-item.result (omega arith) c.item-item.is in
    (omega (arith, h), tt)

pub arguments-loop-item-preserved : goal.arguments-loop-item-preserved
arguments-loop-item-preserved t c =
    along_all_next c.args.emitter.now c.loop-item.emitter c.expression.new.emitter c.args.atoms.now c.args.items.now c.loop-item.item-index
    c.loop-item.parts c.push.new.self c.item-item.result c.in_ok-atom.atom
    (drop_item c.args.items.now c.loop-item.item-index c.item-item.result (omega arith) c.item-item.is)
    (c.in_ok-push.ensures.ok ∙ ap (λ (x : Term). c.loop-item.parts ++ x ∷ []) c.term.ensures)
    c.loop-item.invariant
    c.in_ok-atom.ensures

pub expression-operate-requires : goal.expression-operate-requires
expression-operate-requires t c =
    let h = along_last c.args.emitter.now c.loop-right.emitter c.args.atoms.now c.args.expr.now c.loop-right.rights c.pop.new.self c.in-Some.right c.loop-right.atom
    c.in-Some.ensures c.loop-right.invariant in
    (omega (arith, h), tt)

pub expression-loop-right-preserved : goal.expression-loop-right-preserved
expression-loop-right-preserved t c =
    along_next c.args.emitter.now c.loop-right.emitter c.operate.new.emitter c.args.atoms.now c.args.expr.now c.loop-right.rights c.pop.new.self c.in-Some.right
    c.loop-right.atom c.in_ok-atom-2.atom c.in-Some.ensures c.loop-right.invariant c.in_ok-atom-2.ensures
