-- What is printed so far and what is left are the whole.
use Rattle.std.proofs.Common.{◌≡◌, ◌++◌, drop, string_bytes}
use Rattle.std.specs.List.{flat_map}
use Rattle.text_meaning.specs.Shown.{plain_field_text}
use Rattle.lean_printer.proofs.declarations.put_plain_fields.Given as goal

abbrev pub invariant-loop-field : goal.invariant-loop-field
invariant-loop-field l = string_bytes l.out ++ flat_map (plain_field_text l.defs l.names) (drop l.field-index l.fields) ≡ string_bytes l.fn.out ++ flat_map (plain_field_text l.defs l.names) l.fields
