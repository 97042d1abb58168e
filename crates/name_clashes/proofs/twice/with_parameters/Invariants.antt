use Rattle.std.proofs.Common.{◌≡◌, ◌++◌, drop}
use Rattle.name_clashes.specs.declared.entry.Kind.TheVariants as kind
use Rattle.name_clashes.specs.Twice.{entries}
use Rattle.name_clashes.proofs.twice.with_parameters.Given as goal

abbrev pub invariant-loop-i : goal.invariant-loop-i
invariant-loop-i l = l.seen ++ entries kind.Parameter (drop l.i l.params) ≡ l.fn.seen ++ entries kind.Parameter l.params
