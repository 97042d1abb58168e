-- Each part is smaller than the whole.
use Rattle.std.proofs.Common.{arith, refl, append_assoc}
use Rattle.rust_printer.proofs.Parts.{types_part}
use Rattle.rust_printer.proofs.Lists.{first_and_rest}
use Rattle.rust_printer.proofs.types.+ty.Goals as goal

pub put_types-put_type-requires : goal.put_types-put_type-requires
put_types-put_type-requires t c =
    let h = types_part c.args.parts.now c.loop-part.part-index c.part-item.result (omega arith) c.part-item.is in (omega (arith, h), tt)

pub put_arguments-returns-in_ok-put-in-len1-up-3 : goal.put_arguments-returns-in_ok-put-in-len1-up-3
put_arguments-returns-in_ok-put-in-len1-up-3 t c =
    let e = first_and_rest c.args.args.now c.first-item.result c.in-len1-up.len_at_least c.first-item.is in
    let h1 = c.in_ok-put-in-len1-up.ensures in
    let h2 = c.in_ok-put_type-in-len1-up.ensures in
    let h3 = c.in_ok-put-in-len1-up-2.ensures in
    let h4 = c.in_ok-put_types-in-len1-up.ensures in
    let h5 = c.in_ok-put-in-len1-up-3.ensures in
    rw e (simp (h5, h4, h3, h2, h1, append_assoc) refl)
