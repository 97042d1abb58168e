use Rattle.core_ty.proofs.Verdicts.{one_clear}
use Rattle.core_ty.proofs.Ranked.{falls_not_endless}
use Rattle.core_ty.proofs.clear.clear_one.Goals as goal

pub returns-then-branch : goal.returns-then-branch
returns-then-branch c =
    one_clear c.args.decls.now c.args.marks.now c.set.new.self c.args.decl c.requires.clear
    (falls_not_endless c.args.decls.now c.args.rows.now c.args.ranks.now c.args.decl c.requires.shape c.requires.complete c.requires.ranked
    (c.in_ok-falls.ensures c.if-branch.true) c.requires.within)
    c.set.ensures
