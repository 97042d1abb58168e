-- The classes before this one are others.
use Rattle.std.proofs.Common.{◌≡◌, drop}
use Rattle.std.specs.List.{list_any}
use denote.Enum.Bare.{sameb}
use Rattle.source_grammar.specs.contracts.class.Class.{the_type}
use Rattle.source_table.proofs.classes.is_among.Given as goal

abbrev pub invariant-loop-one : goal.invariant-loop-one
invariant-loop-one l = list_any (sameb the_type l.class) (drop l.one-index l.classes) ≡ list_any (sameb the_type l.class) l.classes
