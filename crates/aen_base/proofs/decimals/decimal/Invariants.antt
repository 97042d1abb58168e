-- The number so far and the digits that are left write the whole number.
use Rattle.std.proofs.Common.{◌≡◌, drop}
use Rattle.aen_base.specs.Decimals.{decimal_number}
use Rattle.aen_base.proofs.Digits.{read_from}
use Rattle.aen_base.proofs.decimals.decimal.Given as goal

abbrev pub invariant-loop-digit : goal.invariant-loop-digit
invariant-loop-digit l = read_from l.value (drop l.digit-index l.digits) ≡ decimal_number l.digits
