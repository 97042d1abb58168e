-- What is printed so far and what is left are the whole.
use Rattle.std.proofs.Common.{◌≡◌, ◌++◌, drop, string_bytes}
use Rattle.text_meaning.specs.ShownTerms.{comma_text}
use Rattle.lean_printer.proofs.terms.put_comma_variables.Given as goal

abbrev pub invariant-loop-variable : goal.invariant-loop-variable
invariant-loop-variable l = string_bytes l.out ++ comma_text (drop l.variable-index l.variables) ≡ string_bytes l.fn.out ++ comma_text l.variables
