-- No arm so far fits.
use Rattle.std.proofs.Common.{◌≡◌, drop}
use Rattle.pure_ast.specs.Code.{arms}
use Rattle.text_meaning.specs.Environment.{Environment}
use Rattle.text_meaning.specs.Evaluate.{Calls, arms_answer}
use Rattle.pure_eval.proofs.arms.first_fit.Given as goal

abbrev pub invariant-loop-arm : goal.invariant-loop-arm
invariant-loop-arm l = (calls : Calls) (env : Environment) →
    arms_answer calls env (arms l.all) l.value ≡ arms_answer calls env (arms (drop l.arm-index l.all)) l.value
