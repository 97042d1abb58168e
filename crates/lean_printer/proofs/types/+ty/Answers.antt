-- Each part is smaller than the whole, and a first part and the others are all parts.
use Rattle.std.proofs.Common.{refl, append_assoc, arith}
use Rattle.lean_printer.proofs.Items.{types_item}
use Rattle.lean_printer.proofs.Joins.{first_and_rest}
use Rattle.lean_printer.proofs.types.+ty.Goals as goal

pub put_times_types-put_type-requires : goal.put_times_types-put_type-requires
put_times_types-put_type-requires t c =
    let h = types_item c.args.parts.now c.loop-part.part-index c.part-item.result (omega arith) c.part-item.is in (omega (arith, h), tt)

pub put_spaced_types-put_type-requires : goal.put_spaced_types-put_type-requires
put_spaced_types-put_type-requires t c =
    let h = types_item c.args.parts.now c.loop-part.part-index c.part-item.result (omega arith) c.part-item.is in (omega (arith, h), tt)

pub put_product-returns-in_ok-put-in-len1-up-2 : goal.put_product-returns-in_ok-put-in-len1-up-2
put_product-returns-in_ok-put-in-len1-up-2 t c =
    let e = first_and_rest c.args.parts.now c.first-item.result c.in-len1-up.len_at_least c.first-item.is in
    let h1 = c.in_ok-put-in-len1-up.ensures in
    let h2 = c.in_ok-put_type-in-len1-up.ensures in
    let h3 = c.in_ok-put_times_types-in-len1-up.ensures in
    let h4 = c.in_ok-put-in-len1-up-2.ensures in
    rw e (simp (h4, h3, h2, h1, append_assoc) refl)

pub put_named-returns-in_ok-put-in-len1-up : goal.put_named-returns-in_ok-put-in-len1-up
put_named-returns-in_ok-put-in-len1-up t c =
    let e = first_and_rest c.args.args.now c.first-item.result c.in-len1-up.len_at_least c.first-item.is in
    let h1 = c.in_ok-put_applied-in-len1-up.ensures in
    let h2 = c.in_ok-put_type-in-len1-up.ensures in
    let h3 = c.in_ok-put_spaced_types-in-len1-up.ensures in
    let h4 = c.in_ok-put-in-len1-up.ensures in
    rw e (simp (h4, h3, h2, h1, append_assoc) refl)
