use Rattle.std.proofs.Common.{◌≡◌, ◌++◌, length, reverse}
use Rattle.text_names.proofs.type_table.type_tables.Given as goal

abbrev pub invariant-loop-head : goal.invariant-loop-head
invariant-loop-head l = l.heads ++ reverse l.types.items ≡ l.fn.heads

abbrev pub decreases-loop-head : goal.decreases-loop-head
decreases-loop-head l = length l.heads
