-- A program whose names are resolved has few variables in each function, and functions whose names differ.
use Rattle.std.proofs.Common.{inl, inr}
use Rattle.std.proofs.lemmas.Result.{IfOk-weaker}
use Rattle.rust_names.specs.Naming.{resolved_few, resolved_differ}
use Rattle.aeneas.specs.SourceFound.{IsFoundResolved, IsFoundWritten, IsRefusedAs}
use Rattle.aeneas.proofs.Sources.{fault_found}
use Rattle.aeneas.proofs.source.written_program.Goals as goal

pub resolved_program-requires-clause-few : goal.resolved_program-requires-clause-few
resolved_program-requires-clause-few c = resolved_few c.args.program.now c.in-Ok.resolved c.in-Ok.ensures

pub resolved_program-requires-clause-differ : goal.resolved_program-requires-clause-differ
resolved_program-requires-clause-differ c = resolved_differ c.args.program.now c.in-Ok.resolved c.in-Ok.ensures

pub returns-in-Ok : goal.returns-in-Ok
returns-in-Ok c =
    IfOk-weaker c.resolved_program.result (IsFoundResolved c.in-Ok.resolved) (IsFoundWritten c.args.program.now)
    (λ s h. inl (record { resolved = c.in-Ok.resolved; names = c.in-Ok.ensures; found = h })) c.resolved_program.ensures

pub returns-in-Err : goal.returns-in-Err
returns-in-Err c =
    IfOk-weaker c.unresolved.result (IsRefusedAs c.in-Err.fault) (IsFoundWritten c.args.program.now)
    (λ s h. inr (fault_found c.args.program.now c.in-Err.fault s c.in-Err.ensures h)) c.unresolved.ensures
