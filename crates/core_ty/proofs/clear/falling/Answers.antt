use Rattle.core_ty.proofs.Verdicts.{none_clear}
use Rattle.core_ty.proofs.clear.falling.Goals as goal

pub loop-decl-init : goal.loop-decl-init
loop-decl-init c = none_clear c.args.decls.now c.in_ok-marks.marks c.in_ok-marks.ensures
