use Rattle.std.proofs.Common.{◌≡◌, length, take}
use Rattle.name_uses.proofs.scope.Scope.first.Given as goal

abbrev pub invariant-loop-scope : goal.invariant-loop-scope
invariant-loop-scope l = take l.count l.scope ≡ take l.count l.fn.self

abbrev pub decreases-loop-scope : goal.decreases-loop-scope
decreases-loop-scope l = length l.scope
