-- The names so far.
use Rattle.std.proofs.Common.{◌≡◌, ◌++◌, take}
use Rattle.raw_meaning.specs.Faults.{texts}
use Rattle.text_names.proofs.names.Names.with_all.Given as goal

abbrev pub invariant-loop-name : goal.invariant-loop-name
invariant-loop-name l = l.all ≡ l.fn.self ++ texts (take l.name-index l.names)
