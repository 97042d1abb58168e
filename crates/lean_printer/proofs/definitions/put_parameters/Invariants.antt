-- What is printed so far and what is left are the whole.
use Rattle.std.proofs.Common.{◌≡◌, ◌++◌, drop, string_bytes}
use Rattle.text_meaning.specs.Shown.{parameters_text}
use Rattle.lean_printer.proofs.definitions.put_parameters.Given as goal

abbrev pub invariant-loop-place : goal.invariant-loop-place
invariant-loop-place l =
    string_bytes l.out ++ parameters_text l.defs l.names l.place (drop l.place l.params) ≡ string_bytes l.fn.out ++ parameters_text l.defs l.names 0 l.params
