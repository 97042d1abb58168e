use Rattle.std.proofs.Common.{◌≡◌, drop, List, ◌++◌}
use Rattle.std.specs.Option.{option_map}
use Rattle.aen_base.specs.Numbers.{Number}
use Rattle.pointer_machine.specs.Values as spec
use Rattle.pointer_machine.proofs.running.numbers.Given as goal

abbrev pub invariant-loop-value : goal.invariant-loop-value
invariant-loop-value l = option_map (λ (ns : List Number). l.all ++ ns) (spec.numbers_of (drop l.value-index l.values)) ≡ spec.numbers_of l.values
