use Rattle.std.proofs.Common.{◌≡◌, map, take}
use Rattle.type_forms.proofs.coverage.are_uncovered.Given as goal

abbrev pub invariant-loop-arm : goal.invariant-loop-arm
invariant-loop-arm l = map (λ p. p.now) l.patterns ≡ map (λ x. x.0) (take l.arm-index l.arms)
