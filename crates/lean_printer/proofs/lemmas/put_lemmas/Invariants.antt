-- What is printed so far and what is left are the whole.
use Rattle.std.proofs.Common.{◌≡◌, ◌++◌, drop, string_bytes}
use Rattle.std.specs.List.{flat_map}
use Rattle.text_meaning.specs.ShownLemmas.{lemma_text}
use Rattle.lean_printer.proofs.lemmas.put_lemmas.Given as goal

abbrev pub invariant-loop-def : goal.invariant-loop-def
invariant-loop-def l = string_bytes l.out ++ flat_map (lemma_text l.defs) (drop l.def-index l.all) ≡ string_bytes l.fn.out ++ flat_map (lemma_text l.defs) l.all
