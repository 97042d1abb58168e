use Rattle.std.proofs.Common.{◌≡◌, replicate}
use Rattle.translate.specs.Lists.{u32_type}
use Rattle.translate.proofs.function.parameter_types.Given as goal

abbrev pub invariant-loop-parameter : goal.invariant-loop-parameter
invariant-loop-parameter l = l.types ≡ replicate l._parameter u32_type
