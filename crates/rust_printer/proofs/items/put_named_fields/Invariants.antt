-- What is printed so far and what is left are the whole.
use Rattle.std.proofs.Common.{◌≡◌, ◌++◌, drop, string_bytes}
use Rattle.rust_printer.specs.Shown.{named_fields_text}
use Rattle.rust_printer.proofs.items.put_named_fields.Given as goal

abbrev pub invariant-loop-field : goal.invariant-loop-field
invariant-loop-field l = string_bytes l.out ++ named_fields_text (drop l.field-index l.fields) ≡ string_bytes l.fn.out ++ named_fields_text l.fields
