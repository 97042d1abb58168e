-- An operator on two numbers of one type.
use Rattle.std.proofs.Common.{refl, sym, ◌∙◌}
use Rattle.text_meaning.specs.Primitives.{operated}
use Rattle.pure_eval.proofs.Operations.{no_shift, on_two}
use Rattle.pure_eval.proofs.primitives.arithmetic.Goals as goal

pub returns-in-Some-two_numbers : goal.returns-in-Some-two_numbers
returns-in-Some-two_numbers c =
    let t = c.args.ty in
    let op = c.args.op in
    let a = c.in-Some-two_numbers.sides.0 in
    let b = c.in-Some-two_numbers.sides.1 in
    let plain = no_shift t op c.args.values (sym c.is_shift_operator.ensures ∙ c.if-is_shift_operator.false) in
    let two = on_two t (operated t op) c.args.values a b (sym c.in-Some-two_numbers.ensures.is) in
    rw (c.answered-in-Some-two_numbers.ensures, c.checked-in-Some-two_numbers.ensures, plain, two, c.in-Some-two_numbers.ensures.of_type.0) refl
