use Rattle.std.proofs.Common.{◌≡◌, ◌+◌, length}
use Rattle.translate.specs.Emit as spec
use Rattle.translate.proofs.emitter.Emitter.finish.Given as goal

abbrev pub invariant-loop-comp : goal.invariant-loop-comp
invariant-loop-comp l = record {
  whole : spec.chain l.first l.comps l.code ≡ spec.chained l.first l.fn.self.comps l.fn.atom;
  next : l.next ≡ l.first + length l.comps;
}

abbrev pub decreases-loop-comp : goal.decreases-loop-comp
decreases-loop-comp l = length l.comps
