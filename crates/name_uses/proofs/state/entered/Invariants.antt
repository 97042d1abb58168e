use Rattle.std.proofs.Common.{◌≡◌, ◌-◌}
use Rattle.name_uses.specs.Scopes.{with_variables}
use Rattle.name_uses.proofs.state.entered.Given as goal

abbrev pub invariant-loop-place : goal.invariant-loop-place
invariant-loop-place l = with_variables l.place l.to l.variables l.scope ≡ with_variables l.fn.from l.to l.variables l.fn.scope

abbrev pub decreases-loop-place : goal.decreases-loop-place
decreases-loop-place l = l.to - l.place
