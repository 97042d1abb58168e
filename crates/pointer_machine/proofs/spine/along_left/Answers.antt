use Rattle.std.proofs.Common.{◌≡◌, ◌≤◌, ap, sym, subst, ◌∙◌}
use Rattle.sums_ast.specs.Tree.{Expr, binary, nodes_expr}
use Rattle.sums_ast.specs.View.{expr_of}
use Rattle.pointer_machine.specs.declared.spine.Right.{Right}
use Rattle.pointer_machine.specs.Spine as spec
use Rattle.source_meaning.specs.SpineLemmas.{next_whole, next_below, next_left}
use Rattle.pointer_machine.proofs.spine.along_left.Goals as goal

pub loop-left-preserved : goal.loop-left-preserved
loop-left-preserved c =
    let whole = c.args.expr.now in
    let left = c.loop-left.left.now in
    let a = c.in-Binary.a in
    let b = c.in-Binary.b in
    let s = c.in-Binary.span in
    let op = c.in-Binary.op in
    let r : Right = record { span = s; op = op; side = c.get.result } in
    let is : left ≡ binary s op a b = sym c.left.view_is ∙ ap expr_of c.in-Binary.is in
    let pushed = c.in_ok-push-in-Binary.ensures.ok in
    let same : a ≡ c.get-left.result.now = sym c.get-left.ensures in
    let here = c.loop-left.invariant in
    record {
      whole = λ k vars. subst (λ (e : Expr). spec.rights_value k vars c.push.new.self (spec.value k vars e) ≡ spec.value k vars whole) same
          (next_whole whole left a b s op c.loop-left.rights c.push.new.self r is pushed (spec.with_right k vars) (spec.value k vars)
          (ap (λ (e : Expr). spec.value k vars (binary s op a e)) c.get.ensures) (here.whole k vars));
      left = subst (λ (e : Expr). nodes_expr e ≤ nodes_expr whole) same (next_left whole left a b s op c.loop-left.rights c.push.new.self r is pushed here.left);
      rights = next_below whole left a b s op c.loop-left.rights c.push.new.self r is pushed spec.right_side c.get.ensures here.left here.rights;
    }
