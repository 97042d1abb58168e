use Rattle.std.proofs.Common.{◌≡◌}
use Rattle.std.specs.Prelude.{slice_get, Some}
use Rattle.std.proofs.lemmas.Result.{IfOk-weaker}
use Rattle.sums_ast.specs.declared.function.Function.{Function}
use Rattle.source_meaning.specs.Calling.{call_outcome}
use Rattle.source_meaning.specs.declared.outcome.Outcome.{Outcome}
use Rattle.pointer_machine.specs.Values as spec
use Rattle.pointer_machine.specs.Outcomes.{IsSettled}
use Rattle.pointer_machine.proofs.Runs.{outcome_is, outcome_settled}
use Rattle.pointer_machine.proofs.running.run.Goals as goal

pub returns-clause-same : goal.returns-clause-same
returns-clause-same c =
    IfOk-weaker c.outcome.result
    (λ (o : Outcome). o ≡ spec.begun c.args.program.now c.args.n c.args.f.0 c.index-as_slice-f.result.span c.in_ok-values.values)
    (λ (o : Outcome). (g : Function) → slice_get c.args.program.now.functions c.args.f.0 ≡ Some g → o ≡ call_outcome c.args.program.now c.args.f.0 g c.args.args.now c.args.n)
    (λ o h g is. outcome_is c.args.program.now c.args.n c.args.f.0 c.as_slice.result.now c.index-as_slice-f.result g c.args.args.now c.in_ok-values.values o
    c.requires.typed c.requires.there c.as_slice.ensures c.index-as_slice-f.is c.in_ok-values.ensures h is)
    c.outcome.ensures

pub returns-clause-settled : goal.returns-clause-settled
returns-clause-settled c =
    IfOk-weaker c.outcome.result
    (λ (o : Outcome). o ≡ spec.begun c.args.program.now c.args.n c.args.f.0 c.index-as_slice-f.result.span c.in_ok-values.values)
    IsSettled
    (λ o h. outcome_settled c.args.program.now c.args.n c.args.f.0 c.index-as_slice-f.result.span c.args.args.now c.in_ok-values.values o
    c.requires.typed c.requires.there c.in_ok-values.ensures h)
    c.outcome.ensures
