use Rattle.std.proofs.Common.{refl, append_assoc}
use Rattle.lean_printer.proofs.Joins.{first_and_rest}
use Rattle.lean_printer.proofs.values.put_built.Goals as goal

pub returns-in_ok-push_both-in-len1-up-clause-text : goal.returns-in_ok-push_both-in-len1-up-clause-text
returns-in_ok-push_both-in-len1-up-clause-text c =
    let e = first_and_rest c.args.parts.now c.first-item.result c.in-len1-up.len_at_least c.first-item.is in
    let h1 = c.in_ok-put-in-len1-up.ensures in
    let h2 = c.in_ok-put_ctor-in-len1-up.ensures in
    let h3 = c.in_ok-put-in-len1-up-2.ensures in
    let h4 = c.in_ok-push_both-in-len1-up.ensures.text c.args.defs.now in
    rw e (simp (h4, h3, h2, h1, append_assoc) refl)
