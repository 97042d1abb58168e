use Rattle.std.proofs.Common.{◌-◌, ◌∙◌, sym, ap, length, take, arith}
use Rattle.name_uses.proofs.ScopeTables.{take_all, take_take}
use Rattle.name_uses.proofs.scope.Scope.first.Goals as goal

pub loop-scope-preserved : goal.loop-scope-preserved
loop-scope-preserved c =
    ap (take c.args.count) c.in_ok-fewer.ensures ∙ take_take c.args.count (length c.loop-scope.scope - 1) c.loop-scope.scope (omega arith) ∙ c.loop-scope.invariant

pub returns : goal.returns
returns c = sym (take_all c.args.count c.loop-scope.scope (omega arith)) ∙ c.loop-scope.invariant
