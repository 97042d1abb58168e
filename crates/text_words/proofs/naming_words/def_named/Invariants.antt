-- No definition before this place has the name.
use Rattle.std.proofs.Common.{◌≡◌}
use Rattle.text_words.specs.NamedDefinitions.{NoneNamed}
use Rattle.text_words.proofs.naming_words.def_named.Given as goal

abbrev pub invariant-loop-definition : goal.invariant-loop-definition
invariant-loop-definition l = record { place : l.number ≡ l.definition-index; none : NoneNamed l.defs l.name l.number }
