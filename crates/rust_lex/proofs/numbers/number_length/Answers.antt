use Rattle.std.proofs.Common.{◌∙◌, ap, arith, length, length-drop}
use Rattle.rust_lex.specs.Numbers.{goes_on}
use Rattle.rust_lex.proofs.FrontLemmas.{front_length}
use Rattle.rust_lex.proofs.numbers.number_length.Goals as goal

pub overflow_add-result-2 : goal.overflow_add-result-2
overflow_add-result-2 c =
    let f = front_length (goes_on c.base_of-base.result) c.after-digits.result.now in
    let l = ap length c.after-digits.ensures ∙ length-drop c.prefix_length-prefix.result c.args.bytes.now in
    let w = c.base_of-base.ensures.within in
    let p = c.prefix_length-prefix.ensures in
    let s = c.suffix_length-suffix.ensures.small in
    let d = c.digits_length-count.ensures in
    omega arith
