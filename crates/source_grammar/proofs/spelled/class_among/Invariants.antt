-- The classes before this one are spelled otherwise.
use Rattle.std.proofs.Common.{◌≡◌, drop}
use Rattle.source_grammar.specs.Spelled as spec
use Rattle.source_grammar.proofs.spelled.class_among.Given as goal

abbrev pub invariant-loop-class : goal.invariant-loop-class
invariant-loop-class l = spec.class_among l.text l.other (drop l.class-index l.classes) ≡ spec.class_among l.text l.other l.classes
