use Rattle.std.proofs.Common.{◌≡◌, drop}
use Rattle.type_rules.specs.Constructors.{is_wrong_list}
use Rattle.type_values.proofs.written.is_wrong_list.Given as goal

abbrev pub invariant-loop-list : goal.invariant-loop-list
invariant-loop-list l = is_wrong_list l.count (drop l.list-index l.lists) ≡ is_wrong_list l.count l.lists
