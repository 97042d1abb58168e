use Rattle.std.proofs.Common.{arith}
use Rattle.aen_io.proofs.Writings.{writes_turn, turn_within}
use Rattle.aen_io.proofs.writing.write_all.Goals as goal

pub loop-done-preserved : goal.loop-done-preserved
loop-done-preserved g c =
    let ok = c.in_ok-taken.ensures in
    let here = c.loop-done.invariant in
    record {
      within = turn_within c.args.bytes.now c.loop-done.done c.in_ok-taken.taken here.within ok.bound;
      later = omega (arith, here.later, c.write.ensures.later);
      written = writes_turn _ _ _ c.args.bytes.now c.loop-done.done c.in_ok-taken.taken here.written ok.takes;
    }
