use Rattle.std.proofs.Common.{◌-◌, ap, ◌∙◌}
use Rattle.translate.specs.Emit as spec
use Rattle.translate.proofs.Steps.{chain_pop, popped_next}
use Rattle.translate.proofs.emitter.Emitter.finish.Goals as goal

pub loop-comp-preserved : goal.loop-comp-preserved
loop-comp-preserved c =
    let first = c.args.first in
    let before = c.pop.new.self in
    let next = popped_next first c.loop-comp.next c.loop-comp.comps before c.in-Some.comp c.in-Some.ensures c.loop-comp.invariant.next in
    record {
      whole = ap (spec.chain first before) c.in_ok-code.ensures
          ∙ chain_pop first (c.loop-comp.next - 1) c.loop-comp.comps before c.in-Some.comp c.loop-comp.code c.in-Some.ensures next
          ∙ c.loop-comp.invariant.whole;
      next = next;
    }
