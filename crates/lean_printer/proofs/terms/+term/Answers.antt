-- Each part is smaller than the whole, and a first part and the others are all parts.
use Rattle.std.proofs.Common.{refl, append_assoc, arith}
use Rattle.lean_printer.proofs.Items.{terms_item}
use Rattle.lean_printer.proofs.Joins.{first_and_rest}
use Rattle.lean_printer.proofs.terms.+term.Goals as goal

pub put_comma_terms-put_term-requires : goal.put_comma_terms-put_term-requires
put_comma_terms-put_term-requires t c =
    let h = terms_item c.args.parts.now c.loop-part.part-index c.part-item.result (omega arith) c.part-item.is in (omega (arith, h), tt)

pub put_spaced_terms-put_term-requires : goal.put_spaced_terms-put_term-requires
put_spaced_terms-put_term-requires t c =
    let h = terms_item c.args.parts.now c.loop-part.part-index c.part-item.result (omega arith) c.part-item.is in (omega (arith, h), tt)

pub put_tuple-returns-in_ok-put-in-len1-up-2 : goal.put_tuple-returns-in_ok-put-in-len1-up-2
put_tuple-returns-in_ok-put-in-len1-up-2 t c =
    let e = first_and_rest c.args.parts.now c.first-item.result c.in-len1-up.len_at_least c.first-item.is in
    let h1 = c.in_ok-put-in-len1-up.ensures in
    let h2 = c.in_ok-put_term-in-len1-up.ensures in
    let h3 = c.in_ok-put_comma_terms-in-len1-up.ensures in
    let h4 = c.in_ok-put-in-len1-up-2.ensures in
    rw e (simp (h4, h3, h2, h1, append_assoc) refl)

pub put_built-returns-in_ok-put-in-len1-up-3 : goal.put_built-returns-in_ok-put-in-len1-up-3
put_built-returns-in_ok-put-in-len1-up-3 t c =
    let e = first_and_rest c.args.parts.now c.first-item.result c.in-len1-up.len_at_least c.first-item.is in
    let h1 = c.in_ok-put-in-len1-up.ensures in
    let h2 = c.in_ok-put_ctor-in-len1-up.ensures in
    let h3 = c.in_ok-put-in-len1-up-2.ensures in
    let h4 = c.in_ok-put_term-in-len1-up.ensures in
    let h5 = c.in_ok-put_spaced_terms-in-len1-up.ensures in
    let h6 = c.in_ok-put-in-len1-up-3.ensures in
    rw e (simp (h6, h5, h4, h3, h2, h1, append_assoc) refl)
