-- The arm that fits is smaller than all arms.
use Rattle.pure_eval.proofs.Matching.{arm_part}
use Rattle.pure_eval.proofs.arms.first_fit.Goals as goal

pub returns-then-does_fit-clause-size : goal.returns-then-does_fit-clause-size
returns-then-does_fit-clause-size c =
    arm_part c.args.all.now c.loop-arm.arm-index c.arm-item.result c.loop-arm-test.true c.arm-item.is
