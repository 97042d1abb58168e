use Rattle.std.proofs.Common.{◌≡◌, drop}
use Rattle.std.specs.List.{list_any}
use Rattle.std.specs.Ordering.{int_eq}
use Rattle.type_cover.specs.Cells.{values_now}
use Rattle.type_cover.proofs.numbers.is_among.Given as goal

abbrev pub invariant-loop-one : goal.invariant-loop-one
invariant-loop-one l = list_any (int_eq l.number.value) (values_now (drop l.one-index l.numbers)) ≡ list_any (int_eq l.number.value) (values_now l.numbers)
