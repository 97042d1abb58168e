-- What is found is typed, and its functions have their names.
use Rattle.std.proofs.Common.{ap, ◌∙◌}
use Rattle.rust_sums.proofs.Named.{functions_are_named, names_are_kept, resolved_names}
use Rattle.rust_sums.proofs.Typed.{functions_are_typed}
use Rattle.rust_sums.proofs.functions.sums_of.Goals as goal

pub returns-clause-typed : goal.returns-clause-typed
returns-clause-typed c = functions_are_typed c.as_slice.result.now c.in_ok-functions.functions c.in_ok-functions.ensures

pub returns-clause-named : goal.returns-clause-named
returns-clause-named c = functions_are_named c.as_slice.result.now c.in_ok-functions.functions c.in_ok-functions.ensures

pub returns-clause-names : goal.returns-clause-names
returns-clause-names c = names_are_kept c.as_slice.result.now c.in_ok-functions.functions c.in_ok-functions.ensures ∙ ap resolved_names c.as_slice.ensures
