use Rattle.std.proofs.lemmas.Bool.{MatchBool-at_false}
use Rattle.core_ty.specs.Containment.{IsEndless}
use Rattle.core_ty.proofs.Verdicts.{next_not_endless}
use Rattle.core_ty.proofs.endless.check_decls.Goals as goal

pub loop-decl-preserved : goal.loop-decl-preserved
loop-decl-preserved c =
    let Itself : Type 0 = IsEndless c.args.decls.now c.loop-decl.decl in
    next_not_endless c.args.decls.now c.loop-decl.decl c.loop-decl.invariant
    (MatchBool-at_false Itself (Itself → ⊥) c.if-branch.false c.in_ok-contains_itself.ensures)
