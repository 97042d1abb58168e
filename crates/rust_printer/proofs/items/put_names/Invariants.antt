-- What is printed so far and what is left are the whole.
use Rattle.std.proofs.Common.{◌≡◌, ◌++◌, drop, string_bytes}
use Rattle.rust_printer.specs.Shown.{names_text}
use Rattle.rust_printer.proofs.items.put_names.Given as goal

abbrev pub invariant-loop-name : goal.invariant-loop-name
invariant-loop-name l = string_bytes l.out ++ names_text (drop l.name-index l.names) ≡ string_bytes l.fn.out ++ names_text l.names
