use Rattle.std.proofs.Common.{◌^◌}
use Rattle.rust_lex.specs.Numbers.{radix}
use Rattle.rust_lex.proofs.ValueLemmas.{past_limit, radix_some}
use Rattle.rust_lex.proofs.numbers.value_of.Goals as goal

pub returns-in_default : goal.returns-in_default
returns-in_default c =
    let none = rw c.in_default.is at c.with_digit.ensures in
    past_limit (2 ^ 128) (radix c.args.base) c.loop-c.number c.loop-c.c-index c.args.digits.now _ (radix_some c.args.base) c.loop-c-test.true none c.loop-c.invariant
