-- The classes before this one are spelled otherwise.
use Rattle.std.proofs.Common.{◌≡◌, drop}
use Rattle.text_table.specs.Spelled as spec
use Rattle.text_table.proofs.spelled.class_among.Given as goal

abbrev pub invariant-loop-class : goal.invariant-loop-class
invariant-loop-class l = spec.class_among l.word (drop l.class-index l.classes) ≡ spec.class_among l.word l.classes
