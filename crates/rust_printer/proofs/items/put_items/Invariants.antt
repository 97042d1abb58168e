-- What is printed so far and what is left are the whole.
use Rattle.std.proofs.Common.{◌≡◌, ◌++◌, drop, string_bytes}
use Rattle.rust_printer.specs.Shown.{items_text}
use Rattle.rust_printer.proofs.items.put_items.Given as goal

abbrev pub invariant-loop-item : goal.invariant-loop-item
invariant-loop-item l = string_bytes l.out ++ items_text (drop l.item-index l.items) ≡ string_bytes l.fn.out ++ items_text l.items
