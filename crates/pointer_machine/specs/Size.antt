-- How many nodes the bodies of a program have: no body has more.
use Rattle.std.specs.Prelude.{ℕ, ◌+◌, ◌*◌, List, [], ◌∷◌}
use Rattle.sums_ast.specs.Tree.{nodes_block}
use Rattle.sums_ast.specs.declared.function.Function.{Function}

abbrev pub bodies : List Function → ℕ
bodies [] = 0
bodies (f ∷ fs) = nodes_block f.body + bodies fs

-- what a call at one bound more may cost
abbrev pub weight : List Function → ℕ
weight fs = 4 * bodies fs + 8
