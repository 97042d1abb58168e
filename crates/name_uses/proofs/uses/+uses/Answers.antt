use Rattle.std.proofs.Common.{◌+◌, length, drop, ap, sym, ◌∙◌, arith}
use Rattle.std.specs.Prelude.{Ok, false}
use Rattle.rust_ast.specs.Resolved as r
use Rattle.rust_ast.specs.Source as s
use Rattle.rust_ast.specs.SourceTypes as types
use Rattle.rust_ast.specs.Written as w
use Rattle.name_tables.specs.NodeLemmas.{expr_item, init_item, arm_item, stmt_item}
use Rattle.name_uses.specs.PatternUses.{read_pat}
use Rattle.name_uses.specs.TypeUses.{read_maybe_type}
use Rattle.name_uses.specs.Uses.{read, read_maybe, read_stmts, read_stmt, both_read, within, under, in_block, block_form}
use Rattle.name_uses.specs.Walks.{on_ok, walk, onward, in_form}
use Rattle.name_uses.proofs.UseLists.{init, arm, walk_all, walk_inits, walk_arms, walk_stmts}
use Rattle.name_uses.proofs.Bodies.{passes, passes_as, passes_form, within_fails, within_gives, under_fails, under_gives, block_fails, block_gives, let_type_fails, let_value_fails, let_gives, branch_value_fails, branch_choice_fails, branch_gives}
use Rattle.name_uses.proofs.Walking.{walk_start, walk_turn}
use Rattle.name_uses.proofs.uses.+uses.Goals as goal

pub resolve_all-loop-i-init : goal.resolve_all-loop-i-init
resolve_all-loop-i-init t c =
    let step = read c.args.tables.now c.args.generics.now in
    walk_all c.args.tables.now c.args.generics.now c.args.items.now c.args.state
    ∙ ap (on_ok (in_form r.exprs)) (sym (walk_start step (walk step c.args.items.now c.args.state)) ∙ ap (λ d. onward d (walk step c.args.items.now c.args.state)) (sym c.new-done.ensures))

pub resolve_all-resolve_expr-requires : goal.resolve_all-resolve_expr-requires
resolve_all-resolve_expr-requires t c =
    let h = expr_item c.args.items.now c.loop-i.i c.index-items-i.result (omega arith) c.index-items-i.is in
    (omega (arith, h), tt)

pub resolve_inits-loop-i-init : goal.resolve_inits-loop-i-init
resolve_inits-loop-i-init t c =
    let step = init c.args.tables.now c.args.generics.now in
    walk_inits c.args.tables.now c.args.generics.now c.args.items.now c.args.state
    ∙ ap (on_ok (in_form r.inits)) (sym (walk_start step (walk step c.args.items.now c.args.state)) ∙ ap (λ d. onward d (walk step c.args.items.now c.args.state)) (sym c.new-done.ensures))

pub resolve_inits-resolve_init-requires : goal.resolve_inits-resolve_init-requires
resolve_inits-resolve_init-requires t c =
    let h = init_item c.args.items.now c.loop-i.i c.index-items-i.result (omega arith) c.index-items-i.is in
    (omega (arith, h), tt)

pub resolve_arms-loop-i-init : goal.resolve_arms-loop-i-init
resolve_arms-loop-i-init t c =
    let step = arm c.args.tables.now c.args.generics.now in
    walk_arms c.args.tables.now c.args.generics.now c.args.items.now c.args.state
    ∙ ap (on_ok (in_form r.arms)) (sym (walk_start step (walk step c.args.items.now c.args.state)) ∙ ap (λ d. onward d (walk step c.args.items.now c.args.state)) (sym c.new-done.ensures))

pub resolve_arms-resolve_arm-requires : goal.resolve_arms-resolve_arm-requires
resolve_arms-resolve_arm-requires t c =
    let h = arm_item c.args.items.now c.loop-i.i c.index-items-i.result (omega arith) c.index-items-i.is in
    (omega (arith, h), tt)

pub resolve_stmts-loop-i-init : goal.resolve_stmts-loop-i-init
resolve_stmts-loop-i-init t c =
    let step = read_stmt c.args.tables.now c.args.generics.now in
    walk_stmts c.args.tables.now c.args.generics.now c.args.items.now c.args.state
    ∙ ap (on_ok (in_form r.stmts)) (sym (walk_start step (walk step c.args.items.now c.args.state)) ∙ ap (λ d. onward d (walk step c.args.items.now c.args.state)) (sym c.new-done.ensures))

pub resolve_stmts-resolve_stmt-requires : goal.resolve_stmts-resolve_stmt-requires
resolve_stmts-resolve_stmt-requires t c =
    let h = stmt_item c.args.items.now c.loop-i.i c.index-items-i.result (omega arith) c.index-items-i.is in
    (omega (arith, h), tt)

pub resolve_arms-loop-i-preserved : goal.resolve_arms-loop-i-preserved
resolve_arms-loop-i-preserved t c =
    let step = arm c.args.tables.now c.args.generics.now in
    let rest = walk step (drop (c.loop-i.i + 1) c.args.items.now) c.in_ok-arm.next in
    c.loop-i.invariant ∙ ap (on_ok (in_form r.arms)) (
    walk_turn step c.args.items.now c.loop-i.i c.loop-i.done c.loop-i.state c.index-items-i.result c.in_ok-arm.arm c.in_ok-arm.next (omega arith) c.index-items-i.is c.in_ok-arm.ensures
    ∙ ap (λ d. onward d rest) (sym c.in_ok-push.ensures.ok))

pub resolve_inits-loop-i-preserved : goal.resolve_inits-loop-i-preserved
resolve_inits-loop-i-preserved t c =
    let step = init c.args.tables.now c.args.generics.now in
    let rest = walk step (drop (c.loop-i.i + 1) c.args.items.now) c.in_ok-item.next in
    c.loop-i.invariant ∙ ap (on_ok (in_form r.inits)) (
    walk_turn step c.args.items.now c.loop-i.i c.loop-i.done c.loop-i.state c.index-items-i.result c.in_ok-item.item c.in_ok-item.next (omega arith) c.index-items-i.is c.in_ok-item.ensures
    ∙ ap (λ d. onward d rest) (sym c.in_ok-push.ensures.ok))

pub resolve_arm-returns-in_err-body : goal.resolve_arm-returns-in_err-body
resolve_arm-returns-in_err-body t c =
    let o = read_pat c.args.tables.now c.args.generics.now false c.args.arm.now.0 c.args.state in
    let inside = read c.args.tables.now c.args.generics.now c.args.arm.now.1 in
    let n = length c.args.state.variables in
    passes (within c.len-from.result c.len-to.result inside c.in_ok-pat.bound) (under o n inside) c.from_residual-in_err-body.result c.in_err-body.field-0.0 c.in_err-body.ensures c.from_residual-in_err-body.ensures.1 (λ q h.
    under_fails o n c.len-from.result c.len-to.result inside c.in_ok-pat.pat c.in_ok-pat.bound q c.in_ok-pat.ensures c.len-from.ensures c.len-to.ensures h)

pub resolve_arm-returns : goal.resolve_arm-returns
resolve_arm-returns t c =
    under_gives (read_pat c.args.tables.now c.args.generics.now false c.args.arm.now.0 c.args.state) (length c.args.state.variables) c.len-from.result c.len-to.result (read c.args.tables.now c.args.generics.now c.args.arm.now.1)
    c.in_ok-pat.pat c.in_ok-body.body c.in_ok-pat.bound c.in_ok-body.last c.in_ok-pat.ensures c.len-from.ensures c.len-to.ensures c.in_ok-body.ensures

pub within-returns-in_err-body : goal.within-returns-in_err-body
within-returns-in_err-body t c =
    let inside = read c.args.tables.now c.args.generics.now c.args.body.now in
    passes (inside c.in_ok-inner.inner) (within c.args.names.0 c.args.names.1 inside c.args.state) c.from_residual-in_err-body.result c.in_err-body.field-0.0 c.in_err-body.ensures c.from_residual-in_err-body.ensures.1 (λ q h.
    within_fails c.args.names.0 c.args.names.1 inside c.args.state c.in_ok-inner.inner q c.in_ok-inner.ensures h)

pub within-returns : goal.within-returns
within-returns t c =
    within_gives c.args.names.0 c.args.names.1 c.len-count.result (read c.args.tables.now c.args.generics.now c.args.body.now) c.in_ok-body.body c.args.state c.in_ok-inner.inner c.in_ok-body.after c.in_ok-outer.outer
    c.len-count.ensures c.in_ok-inner.ensures c.in_ok-body.ensures c.in_ok-outer.ensures

pub in_block-returns-in_err-last : goal.in_block-returns-in_err-last
in_block-returns-in_err-last t c =
    let first = read_stmts c.args.tables.now c.args.generics.now (s.stmts c.args.statements.now) c.args.state in
    let next = read_maybe c.args.tables.now c.args.generics.now (s.maybeexpr c.args.last.now) in
    passes_form (in_form r.maybeexpr) (next c.in_ok-statements.inner) (in_form block_form) (in_block first next (length c.args.state.scope)) c.from_residual-in_err-last.result c.in_err-last.field-0.0
    c.in_err-last.ensures c.from_residual-in_err-last.ensures.1 (λ q h. block_fails first next (length c.args.state.scope) c.in_ok-statements.inner (r.stmts c.in_ok-statements.statements) q c.in_ok-statements.ensures h)

pub in_block-returns : goal.in_block-returns
in_block-returns t c =
    block_gives (read_stmts c.args.tables.now c.args.generics.now (s.stmts c.args.statements.now) c.args.state) (read_maybe c.args.tables.now c.args.generics.now (s.maybeexpr c.args.last.now)) (length c.args.state.scope) c.len-count.result
    c.in_ok-statements.inner c.in_ok-last.after c.in_ok-outer.outer (r.stmts c.in_ok-statements.statements) (r.maybeexpr c.in_ok-last.last) c.in_ok-statements.ensures c.in_ok-last.ensures c.len-count.ensures c.in_ok-outer.ensures

pub resolve_let-returns-in_err-ty : goal.resolve_let-returns-in_err-ty
resolve_let-returns-in_err-ty t c =
    passes_as w.maybewritten (read_maybe_type c.args.tables.now c.args.generics.now (types.maybewritten c.args.parts.now.ty.now)) (read_stmt c.args.tables.now c.args.generics.now (s.bind c.args.span c.args.parts.now.pat.now (types.maybewritten c.args.parts.now.ty.now) (s.maybeexpr c.args.parts.now.value.now)) c.args.state) c.from_residual-in_err-ty.result c.in_err-ty.field-0.0
    c.in_err-ty.ensures c.from_residual-in_err-ty.ensures.1 (λ q h.
    let_type_fails c.args.tables.now c.args.generics.now c.args.span c.args.parts.now.pat.now (types.maybewritten c.args.parts.now.ty.now) (s.maybeexpr c.args.parts.now.value.now) c.args.state c.in_ok-pat.bound c.is_nothing-late.result c.in_ok-pat.pat q c.is_nothing-late.ensures c.in_ok-pat.ensures h)

pub resolve_let-returns-in_err-value : goal.resolve_let-returns-in_err-value
resolve_let-returns-in_err-value t c =
    passes_as (in_form r.maybeexpr) (read_maybe c.args.tables.now c.args.generics.now (s.maybeexpr c.args.parts.now.value.now) c.in_ok-pat.bound) (read_stmt c.args.tables.now c.args.generics.now (s.bind c.args.span c.args.parts.now.pat.now (types.maybewritten c.args.parts.now.ty.now) (s.maybeexpr c.args.parts.now.value.now)) c.args.state) c.from_residual-in_err-value.result c.in_err-value.field-0.0
    c.in_err-value.ensures c.from_residual-in_err-value.ensures.1 (λ q h.
    let_value_fails c.args.tables.now c.args.generics.now c.args.span c.args.parts.now.pat.now (types.maybewritten c.args.parts.now.ty.now) (s.maybeexpr c.args.parts.now.value.now) c.args.state c.in_ok-pat.bound c.is_nothing-late.result c.in_ok-pat.pat (w.maybewritten c.in_ok-ty.ty) q c.is_nothing-late.ensures c.in_ok-pat.ensures c.in_ok-ty.ensures h)

pub resolve_let-returns : goal.resolve_let-returns
resolve_let-returns t c =
    let_gives c.args.tables.now c.args.generics.now c.args.span c.args.parts.now.pat.now (types.maybewritten c.args.parts.now.ty.now) (s.maybeexpr c.args.parts.now.value.now) c.len-from.result c.len-to.result c.args.state c.in_ok-pat.bound c.in_ok-value.after c.in_ok-entered.entered c.is_nothing-late.result c.in_ok-pat.pat (w.maybewritten c.in_ok-ty.ty)
    (r.maybeexpr c.in_ok-value.value) c.is_nothing-late.ensures c.in_ok-pat.ensures c.in_ok-ty.ensures c.in_ok-value.ensures c.len-from.ensures c.len-to.ensures c.in_ok-entered.ensures

pub let_branch-returns-in_err-scrutinee : goal.let_branch-returns-in_err-scrutinee
let_branch-returns-in_err-scrutinee t c =
    let p = c.args.parts.now in
    passes (read c.args.tables.now c.args.generics.now p.value.now c.in_ok-pat.bound) (read c.args.tables.now c.args.generics.now (s.let_branch c.args.span p.pat.now p.value.now p.matched.now p.other.now) c.args.state)
    c.from_residual-in_err-scrutinee.result c.in_err-scrutinee.field-0.0 c.in_err-scrutinee.ensures c.from_residual-in_err-scrutinee.ensures.1 (λ q h.
    branch_value_fails c.args.tables.now c.args.generics.now c.args.span p.pat.now p.value.now p.matched.now p.other.now c.args.state c.in_ok-pat.bound c.in_ok-pat.pat q c.in_ok-pat.ensures h)

pub let_branch-returns-in_err-yes : goal.let_branch-returns-in_err-yes
let_branch-returns-in_err-yes t c =
    let p = c.args.parts.now in
    passes (both_read (within c.len-from.result c.len-to.result (read c.args.tables.now c.args.generics.now p.matched.now) c.in_ok-scrutinee.known) (read c.args.tables.now c.args.generics.now p.other.now))
    (read c.args.tables.now c.args.generics.now (s.let_branch c.args.span p.pat.now p.value.now p.matched.now p.other.now) c.args.state)
    c.from_residual-in_err-yes.result c.in_err-yes.field-0.0 c.in_err-yes.ensures c.from_residual-in_err-yes.ensures.1 (λ q h.
    branch_choice_fails c.args.tables.now c.args.generics.now c.args.span p.pat.now p.value.now p.matched.now p.other.now c.len-from.result c.len-to.result c.args.state c.in_ok-pat.bound c.in_ok-scrutinee.known
    c.in_ok-pat.pat c.in_ok-scrutinee.scrutinee q c.in_ok-pat.ensures c.in_ok-scrutinee.ensures c.len-from.ensures c.len-to.ensures h)

pub let_branch-returns : goal.let_branch-returns
let_branch-returns t c =
    let p = c.args.parts.now in
    branch_gives c.args.tables.now c.args.generics.now c.args.span p.pat.now p.value.now p.matched.now p.other.now c.len-from.result c.len-to.result c.args.state c.in_ok-pat.bound c.in_ok-scrutinee.known c.in_ok-yes.last
    c.in_ok-pat.pat c.in_ok-scrutinee.scrutinee c.in_ok-yes.yes c.in_ok-yes.no c.in_ok-pat.ensures c.in_ok-scrutinee.ensures c.len-from.ensures c.len-to.ensures c.in_ok-yes.ensures
    ∙ ap (λ e. Ok (e, c.in_ok-yes.last)) (sym c.in_ok-select.ensures)
