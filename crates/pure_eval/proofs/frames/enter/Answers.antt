-- What a call comes to, and that its code costs less than the step that makes it.
use Rattle.std.proofs.Common.{◌≡◌, ◌-◌, sym, ◌∙◌, ap}
use Rattle.std.specs.Prelude.{Some, None, slice_get}
use Rattle.text_meaning.specs.Environment.{Environment}
use Rattle.text_meaning.specs.Evaluate.{code_answer}
use Rattle.pure_eval.specs.Costs.{longest}
use Rattle.pure_eval.specs.Unwinding.{calls_at}
use Rattle.pure_eval.proofs.Meanings.{call_of_none, call_empty, call_enters}
use Rattle.pure_eval.proofs.Weights.{weighs, call_costs}
use Rattle.pure_eval.proofs.frames.enter.Goals as goal

pub returns-in_default-clause-meaning : goal.returns-in_default-clause-meaning
returns-in_default-clause-meaning c =
    let none : slice_get c.args.defs.now.defs c.args.def.0 ≡ None = rw c.as_slice.ensures at (sym c.in_default.ensures) in
    call_of_none c.args.defs.now c.args.def.0 c.args.values c.args.fuel none

pub returns-in_default-clause-cost : goal.returns-in_default-clause-cost
returns-in_default-clause-cost c = weighs (longest c.args.defs.now) c.args.fuel

pub returns-then-fuel-eq0-clause-meaning : goal.returns-then-fuel-eq0-clause-meaning
returns-then-fuel-eq0-clause-meaning c =
    let some : slice_get c.args.defs.now.defs c.args.def.0 ≡ Some c.in-Some.definition.now = rw c.as_slice.ensures at (sym c.in-Some.ensures) in
    call_empty c.args.defs.now c.args.def.0 c.args.values c.args.fuel c.in-Some.definition.now some c.if-fuel-eq0.true

pub returns-then-fuel-eq0-clause-cost : goal.returns-then-fuel-eq0-clause-cost
returns-then-fuel-eq0-clause-cost c = weighs (longest c.args.defs.now) c.args.fuel

pub returns-clause-meaning : goal.returns-clause-meaning
returns-clause-meaning c =
    let some : slice_get c.args.defs.now.defs c.args.def.0 ≡ Some c.in-Some.definition.now = rw c.as_slice.ensures at (sym c.in-Some.ensures) in
    call_enters c.args.defs.now c.args.def.0 c.args.values c.args.fuel c.in-Some.definition.now some c.if-fuel-eq0.false
    ∙ ap (λ (env : Environment). code_answer (calls_at c.args.defs.now (c.args.fuel - 1)) env c.in-Some.definition.now.code) (sym c.in_ok-arguments.ensures)

pub returns-clause-cost : goal.returns-clause-cost
returns-clause-cost c =
    let some : slice_get c.args.defs.now.defs c.args.def.0 ≡ Some c.in-Some.definition.now = rw c.as_slice.ensures at (sym c.in-Some.ensures) in
    call_costs c.args.defs.now c.args.def.0 c.in-Some.definition.now c.args.fuel some c.if-fuel-eq0.false
