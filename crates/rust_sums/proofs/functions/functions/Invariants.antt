use Rattle.std.proofs.Common.{◌≡◌, ◌<◌, ◌^◌, [], drop, length}
use Rattle.rust_ast.specs.declared.resolution.Function.{Function}
use Rattle.text_meaning.specs.Lists.{Each}
use Rattle.rust_sums.specs.Sums as spec
use Rattle.rust_sums.proofs.functions.functions.Given as goal

abbrev pub invariant-loop-f : goal.invariant-loop-f
invariant-loop-f l = (spec.functions l.done (drop l.f-index l.all) ≡ spec.functions [] l.all) × Each (λ (f : Function). length f.variables < 2 ^ 32) (drop l.f-index l.all)
