use Rattle.std.proofs.Common.{◌≡◌, map, take}
use Rattle.sums_ast.specs.declared.function.Function.{Function}
use Rattle.translate.specs.Emit as spec
use Rattle.translate.specs.Adds as adds
use Rattle.translate.proofs.program.definitions.Given as goal

abbrev pub invariant-loop-function : goal.invariant-loop-function
invariant-loop-function l = record {
  number : l.number ≡ l.function-index;
  names : l.names ≡ map (λ (f : Function). f.name) (take l.function-index l.program.functions);
  defs : l.defs ≡ spec.definitions 0 (take l.function-index l.program.functions);
  small : adds.AreNumbered (take l.function-index l.program.functions);
}
