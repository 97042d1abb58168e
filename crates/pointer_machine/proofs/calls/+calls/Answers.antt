use Rattle.std.proofs.Common.{◌-◌, sym, ap, subst, ◌∙◌, arith}
use Rattle.std.specs.Prelude.{slice_get}
use Rattle.sums_ast.specs.Tree.{nodes_expr}
use Rattle.source_meaning.specs.SizeLemmas.{exprs_item}
use Rattle.source_meaning.specs.SpineLemmas.{below_last}
use Rattle.pointer_machine.specs.Values as spec
use Rattle.pointer_machine.specs.Spine as spine
use Rattle.pointer_machine.specs.Given.{Gives}
use Rattle.pointer_machine.proofs.Runs.{value_zero, value_past}
use Rattle.pointer_machine.proofs.Sizes.{stmts_item, body_falls}
use Rattle.pointer_machine.proofs.Rights.{first_fails, side_fails, operator_fails, operator_gives, passed_on}
use Rattle.pointer_machine.proofs.calls.+calls.Goals as goal

pub arguments-expression-requires : goal.arguments-expression-requires
arguments-expression-requires t c =
    let h = exprs_item c.args.items.now c.loop-item.item-index c.item-item.result (omega arith) c.item-item.is in
    (omega (arith, h, c.decreases), tt)

pub call-returns-then-bound-eq0 : goal.call-returns-then-bound-eq0
call-returns-then-bound-eq0 t c = value_zero c.args.program.now c.args.bound c.args.span c.args.function.0 c.args.values c.if-bound-eq0.true

pub call-body-requires : goal.call-body-requires
call-body-requires t c =
    let got = ap (λ l. slice_get l c.args.function.0) (sym c.as_slice.ensures) ∙ sym c.in-Some.ensures in
    let h = body_falls c.args.bound c.args.program.now.functions c.args.function.0 c.in-Some.called.now c.if-bound-eq0.false got in
    (omega (arith, h, c.decreases), tt)

pub call-returns-in-Some : goal.call-returns-in-Some
call-returns-in-Some t c =
    let got = ap (λ l. slice_get l c.args.function.0) (sym c.as_slice.ensures) ∙ sym c.in-Some.ensures in
    subst (λ (v : spec.Valued). Gives v c.body.result)
    (sym (value_past c.args.program.now c.args.bound c.args.span c.args.function.0 c.args.values c.if-bound-eq0.false
    ∙ ap (λ o. spec.entered (spec.call_value c.args.program.now (c.args.bound - 1)) c.args.span o c.args.values) got))
    c.body.ensures

pub call-returns-in-None : goal.call-returns-in-None
call-returns-in-None t c =
    let got = ap (λ l. slice_get l c.args.function.0) (sym c.as_slice.ensures) ∙ sym c.in-None.ensures in
    value_past c.args.program.now c.args.bound c.args.span c.args.function.0 c.args.values c.if-bound-eq0.false
    ∙ ap (λ o. spec.entered (spec.call_value c.args.program.now (c.args.bound - 1)) c.args.span o c.args.values) got

pub declare-expression-requires : goal.declare-expression-requires
declare-expression-requires t c =
    let h = stmts_item c.args.statements.now c.loop-statement.statement-index c.statement-item.result (omega arith) c.statement-item.is in
    let same = ap nodes_expr c.bound_to-value.ensures in
    (omega (arith, h, same, c.decreases), tt)

pub expression-returns-in_err-value : goal.expression-returns-in_err-value
expression-returns-in_err-value t c =
    let whole = spec.value (spec.call_value c.args.program.now c.args.bound) c.args.variables.now c.args.expr.now in
    passed_on whole c.from_residual-in_err-value.result c.in_err-value.field-0.0 (c.from_residual-in_err-value.ensures).1
    (first_fails (spec.call_value c.args.program.now c.args.bound) c.args.variables.now whole c.in_ok-first.field-0.rights _ c.in_err-value.field-0.0
    (c.in_ok-first.ensures.whole (spec.call_value c.args.program.now c.args.bound) c.args.variables.now) c.in_err-value.ensures)

pub expression-expression-requires : goal.expression-expression-requires
expression-expression-requires t c =
    let h = (below_last spine.right_side (nodes_expr c.args.expr.now) c.loop-right.rights c.pop.new.self c.in-Some.right c.in-Some.ensures c.loop-right.invariant.below).1 in
    (omega (arith, h, c.decreases), tt)

pub expression-returns-in_err-side : goal.expression-returns-in_err-side
expression-returns-in_err-side t c =
    let calls = spec.call_value c.args.program.now c.args.bound in
    let whole = spec.value calls c.args.variables.now c.args.expr.now in
    passed_on whole c.from_residual-in_err-side.result c.in_err-side.field-0.0 (c.from_residual-in_err-side.ensures).1
    (side_fails calls c.args.variables.now whole c.loop-right.rights c.pop.new.self c.in-Some.right c.loop-right.value c.in-Some.ensures c.loop-right.invariant.whole
    c.in_err-side.field-0.0 c.in_err-side.ensures)

pub expression-returns-in_err-value-2 : goal.expression-returns-in_err-value-2
expression-returns-in_err-value-2 t c =
    let calls = spec.call_value c.args.program.now c.args.bound in
    let whole = spec.value calls c.args.variables.now c.args.expr.now in
    passed_on whole c.from_residual-in_err-value-2.result c.in_err-value-2.field-0.0 (c.from_residual-in_err-value-2.ensures).1
    (operator_fails calls c.args.variables.now whole c.loop-right.rights c.pop.new.self c.in-Some.right c.loop-right.value c.in-Some.ensures c.loop-right.invariant.whole
    c.in_ok-side.side c.in_err-value-2.field-0.0 c.in_ok-side.ensures c.in_err-value-2.ensures)

pub expression-loop-right-preserved : goal.expression-loop-right-preserved
expression-loop-right-preserved t c =
    let calls = spec.call_value c.args.program.now c.args.bound in
    let whole = spec.value calls c.args.variables.now c.args.expr.now in
    record {
      whole = operator_gives calls c.args.variables.now whole c.loop-right.rights c.pop.new.self c.in-Some.right c.loop-right.value c.in-Some.ensures c.loop-right.invariant.whole
          c.in_ok-side.side c.in_ok-value-2.value c.in_ok-side.ensures c.in_ok-value-2.ensures;
      below = (below_last spine.right_side (nodes_expr c.args.expr.now) c.loop-right.rights c.pop.new.self c.in-Some.right c.in-Some.ensures c.loop-right.invariant.below).0;
    }
