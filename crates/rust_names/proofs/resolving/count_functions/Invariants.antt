use Rattle.std.proofs.Common.{◌≡◌, ◌+◌, ◌≤◌, drop}
use Rattle.rust_names.specs.Resolution.{count_functions}
use Rattle.rust_names.proofs.resolving.count_functions.Given as goal

abbrev pub invariant-loop-i : goal.invariant-loop-i
invariant-loop-i l = record {
  counted : l.count + count_functions (drop l.i l.items) ≡ count_functions l.items;
  within : l.count ≤ l.i;
}
