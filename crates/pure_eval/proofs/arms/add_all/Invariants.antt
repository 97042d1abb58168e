-- What the variables that are left come to.
use Rattle.std.proofs.Common.{◌≡◌, ◌++◌, reverse, drop}
use Rattle.std.specs.Prelude.{Some}
use Rattle.text_meaning.specs.Environment.{Environment}
use Rattle.text_meaning.specs.Patterns.{bound}
use Rattle.pure_eval.proofs.arms.add_all.Given as goal

abbrev pub invariant-loop-name : goal.invariant-loop-name
invariant-loop-name l = (more : Environment) → bound l.names l.fn.values ≡ Some more →
    (rest : Environment) × (bound (drop l.name-index l.names) (reverse l.left) ≡ Some rest) × (l.initial.variables ++ more ≡ l.variables ++ rest)
