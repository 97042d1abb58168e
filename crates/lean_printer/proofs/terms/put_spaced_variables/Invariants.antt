-- What is printed so far and what is left are the whole.
use Rattle.std.proofs.Common.{◌≡◌, ◌++◌, drop, string_bytes}
use Rattle.text_meaning.specs.ShownTerms.{spaced_variables}
use Rattle.lean_printer.proofs.terms.put_spaced_variables.Given as goal

abbrev pub invariant-loop-variable : goal.invariant-loop-variable
invariant-loop-variable l = string_bytes l.out ++ spaced_variables (drop l.variable-index l.variables) ≡ string_bytes l.fn.out ++ spaced_variables l.variables
