-- The symbols that are left come before those that stand there.
use Rattle.std.proofs.Common.{◌≡◌, ◌++◌, map, reverse}
use Rattle.table_reader.specs.Machine.{coming}
use Rattle.table_reader.proofs.reader.put.Given as goal

abbrev pub invariant-loop-symbol : goal.invariant-loop-symbol
invariant-loop-symbol g l = map coming l.symbol-iterator.iter.rest.now ++ reverse l.coming ≡ map coming l.symbols ++ reverse l.fn.coming
