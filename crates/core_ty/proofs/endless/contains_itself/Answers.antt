use Rattle.std.proofs.Common.{sym, ◌∙◌, ap}
use Rattle.core_ty.specs.Marks.{is_set}
use Rattle.core_ty.proofs.Verdicts.{by_search}
use Rattle.core_ty.proofs.endless.contains_itself.Goals as goal

pub returns : goal.returns
returns c =
    by_search c.args.decls.now c.args.rows.now c.args.decl c.in_ok-seen.seen c.is_set-2.result
    c.requires.shape c.requires.complete c.requires.sound c.in_ok-seen.ensures c.requires.within
    (ap (λ row. is_set row c.args.decl) (sym c.as_slice.ensures) ∙ sym c.is_set-2.ensures)
