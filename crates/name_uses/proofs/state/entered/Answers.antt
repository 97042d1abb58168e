use Rattle.std.proofs.Common.{◌≡◌, ◌+◌, [], ◌∷◌, ◌++◌, ap, sym, ◌∙◌, arith}
use Rattle.name_uses.specs.Scopes.{with_variables}
use Rattle.name_uses.proofs.Entering.{enters, enters_none, enters_all}
use Rattle.name_uses.proofs.state.entered.Goals as goal

pub loop-place-preserved : goal.loop-place-preserved
loop-place-preserved c =
    let vs = c.args.variables.now in
    let v = c.in-Some.variable.now in
    let more : c.in_ok-more.more ≡ c.loop-place.scope ++ (v.name, c.loop-place.place) ∷ [] =
    c.in_ok-more.ensures ∙ ap (λ k. c.loop-place.scope ++ (v.name, k) ∷ []) c.in_ok-variable_number.ensures in
    ap (with_variables (c.loop-place.place + 1) c.args.to vs) more ∙ sym (enters c.loop-place.place c.args.to vs c.loop-place.scope v (omega arith) (sym c.in-Some.ensures)) ∙ c.loop-place.invariant

pub returns-in_default : goal.returns-in_default
returns-in_default c =
    sym (enters_none c.loop-place.place c.args.to c.args.variables.now c.loop-place.scope (sym c.in_default.ensures)) ∙ c.loop-place.invariant

pub returns : goal.returns
returns c = sym (enters_all c.loop-place.place c.args.to c.args.variables.now c.loop-place.scope (omega arith)) ∙ c.loop-place.invariant
