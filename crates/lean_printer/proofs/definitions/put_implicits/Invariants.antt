-- What is printed so far and what is left are the whole.
use Rattle.std.proofs.Common.{◌≡◌, ◌++◌, drop, string_bytes}
use Rattle.std.specs.List.{flat_map}
use Rattle.text_meaning.specs.Shown.{implicit_text}
use Rattle.lean_printer.proofs.definitions.put_implicits.Given as goal

abbrev pub invariant-loop-name : goal.invariant-loop-name
invariant-loop-name l = string_bytes l.out ++ flat_map implicit_text (drop l.name-index l.names) ≡ string_bytes l.fn.out ++ flat_map implicit_text l.names
