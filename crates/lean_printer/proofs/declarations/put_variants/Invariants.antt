-- What is printed so far and what is left are the whole.
use Rattle.std.proofs.Common.{◌≡◌, ◌++◌, drop, string_bytes}
use Rattle.std.specs.List.{flat_map}
use Rattle.text_meaning.specs.Shown.{variant_text}
use Rattle.lean_printer.proofs.declarations.put_variants.Given as goal

abbrev pub invariant-loop-variant : goal.invariant-loop-variant
invariant-loop-variant l = string_bytes l.out ++ flat_map (variant_text l.defs l.decl) (drop l.variant-index l.variants) ≡ string_bytes l.fn.out ++ flat_map (variant_text l.defs l.decl) l.variants
