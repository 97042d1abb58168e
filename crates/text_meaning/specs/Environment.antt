-- Variables and their values, the newest last (TEXT.md, "Meaning").
use Rattle.std.specs.Prelude.{ℕ, suc, List, [], ◌∷◌, ◌++◌, Option, Some, None, if◌then◌else◌, ◌==◌}
use Rattle.std.specs.Option.{option_or}
use Rattle.pure_ast.specs.Values.{PValue}

abbrev pub Environment : Type 0
Environment = List (ℕ × PValue)

-- the newest value of a variable; None where it has none
abbrev pub lookup : Environment → ℕ → Option PValue
lookup [] v = None
lookup (e ∷ env) v = option_or (lookup env v) (if e.0 == v then Some e.1 else None)

-- the environment with one value more
abbrev pub with_value : Environment → ℕ → PValue → Environment
with_value env v a = env ++ (v, a) ∷ []

-- a definition's arguments: the parameter in place k, counted from 0, is the variable k
abbrev pub numbered : ℕ → List PValue → Environment
numbered k [] = []
numbered k (a ∷ rest) = (k, a) ∷ numbered (suc k) rest

abbrev pub arguments : List PValue → Environment
arguments values = numbered 0 values
