use Rattle.core_ty.proofs.Spreading.{argument_waits}
use Rattle.core_ty.proofs.spread.enter_arguments.Goals as goal

pub loop-place-preserved : goal.loop-place-preserved
loop-place-preserved c ds holds sound held waiting =
    let before = c.loop-place.invariant ds holds sound held waiting in
    c.in_ok-enter_argument.ensures ds
    (argument_waits ds c.args.user c.args.decl c.args.args.now c.loop-place.place c.index-args-place.result c.loop-place-test.true c.index-args-place.is holds)
    sound before.0 before.1
