-- What is printed so far and what is left are the whole.
use Rattle.std.proofs.Common.{◌≡◌, ◌++◌, drop, string_bytes}
use Rattle.rust_printer.specs.Shown.{variants_text}
use Rattle.rust_printer.proofs.items.put_variants.Given as goal

abbrev pub invariant-loop-variant : goal.invariant-loop-variant
invariant-loop-variant l = string_bytes l.out ++ variants_text (drop l.variant-index l.variants) ≡ string_bytes l.fn.out ++ variants_text l.variants
