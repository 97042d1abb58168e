-- What is printed so far and what is left are the whole.
use Rattle.std.proofs.Common.{◌≡◌, ◌++◌, ◌-◌, string_bytes}
use Rattle.text_meaning.specs.ShownLemmas.{variables_from}
use Rattle.lean_printer.proofs.lemmas.put_variables.Given as goal

abbrev pub invariant-loop-place : goal.invariant-loop-place
invariant-loop-place l =
    string_bytes l.out ++ variables_from l.place (l.count - l.place) ≡ string_bytes l.fn.out ++ variables_from 0 l.count
