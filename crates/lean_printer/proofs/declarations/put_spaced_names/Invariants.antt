-- What is printed so far and what is left are the whole.
use Rattle.std.proofs.Common.{◌≡◌, ◌++◌, drop, string_bytes}
use Rattle.text_meaning.specs.Shown.{spaced_names}
use Rattle.lean_printer.proofs.declarations.put_spaced_names.Given as goal

abbrev pub invariant-loop-name : goal.invariant-loop-name
invariant-loop-name l = string_bytes l.out ++ spaced_names (drop l.name-index l.names) ≡ string_bytes l.fn.out ++ spaced_names l.names
