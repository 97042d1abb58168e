use Rattle.std.proofs.Common.{◌≡◌, ◌+◌, length, drop, List, ◌∷◌, ap, subst, arith}
use Rattle.std.proofs.lemmas.Result.{IfOk-weaker}
use Rattle.sums_ast.specs.Tree.{Expr, Stmt, no_stmts, Block, maybeexpr}
use Rattle.translate.specs.declared.atom.Atom.{Atom}
use Rattle.translate.specs.Emit as spec
use Rattle.translate.specs.Adds.{Adds}
use Rattle.translate.proofs.Items.{drop_item, drop_all}
use Rattle.translate.proofs.Statements.{along_body_start, along_body_next, along_body_end}
use Rattle.translate.proofs.function.body.Goals as goal

pub loop-statement-init : goal.loop-statement-init
loop-statement-init c = along_body_start c.args.emitter.now c.args.atoms c.block.inside.node.statements (maybeexpr c.block.inside.node.last)

pub loop-statement-preserved : goal.loop-statement-preserved
loop-statement-preserved c =
    let mid = c.loop-statement.emitter in
    let statement = c.statement-item.result in
    let i = c.loop-statement.statement-index in
    along_body_next c.args.emitter.now mid c.expression.new.emitter c.args.atoms c.block.inside.node.statements (maybeexpr c.block.inside.node.last)
    c.loop-statement.statement-index c.loop-statement.atoms c.push.new.self statement c.in_ok-atom.atom
    (subst (λ (l : List Stmt). drop i l ≡ statement ∷ drop (i + 1) l) c.as_slice-statement-items.ensures
    (drop_item c.as_slice-statement-items.result.now i statement (omega arith) c.statement-item.is))
    c.in_ok-push.ensures.ok
    c.loop-statement.invariant
    (subst (λ (l : List Atom). Adds mid c.expression.new.emitter (spec.emit mid.next l (spec.bound statement)) c.in_ok-atom.atom) c.as_slice.ensures
    (subst (λ (e : Expr). Adds mid c.expression.new.emitter (spec.emit mid.next c.as_slice.result.now e) c.in_ok-atom.atom) c.bound.ensures c.in_ok-atom.ensures))

pub returns : goal.returns
returns c =
    let old = c.args.emitter.now in
    let mid = c.loop-statement.emitter in
    let new = c.value.new.emitter in
    let all = c.block.inside.node.statements in
    let final = maybeexpr c.block.inside.node.last in
    let size = ap (λ (l : List Stmt). length l) c.as_slice-statement-items.ensures in
    IfOk-weaker c.value.result
    (λ a. Adds mid new (spec.emit_body mid.next c.as_slice-2.result.now no_stmts final) a)
    (λ a. Adds old new (spec.emit_block old.next c.args.atoms c.args.block.now) a)
    (λ a h. subst (λ (b : Block). Adds old new (spec.emit_block old.next c.args.atoms b) a) c.block.view_is
    (along_body_end old mid new c.args.atoms all final c.loop-statement.statement-index c.loop-statement.atoms a
    (drop_all all c.loop-statement.statement-index (omega arith))
    c.loop-statement.invariant
    (subst (λ (l : List Atom). Adds mid new (spec.emit_body mid.next l no_stmts final) a) c.as_slice-2.ensures h)))
    c.value.ensures
