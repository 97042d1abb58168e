-- The table of the names in scope: of each name the newest variable; each name tells what it hides, so
-- that it can be taken off.
use Rattle.std.specs.Prelude.{◌≡◌, ℕ, List, [], ◌∷◌, ◌++◌, map, Option, Some, None}
use Rattle.name_uses.specs.declared.scope.InScope.{InScope}
use Rattle.name_uses.specs.Scopes.{variable_of}

abbrev pub pair : InScope → List ℕ × ℕ
pair x = (x.name, x.variable)

abbrev pub pairs : List InScope → List (List ℕ × ℕ)
pairs xs = map pair xs

-- a name that was taken off may stand in the table without a variable
abbrev pub found : Option (Option ℕ) → Option ℕ
found None = None
found (Some o) = o

abbrev pub IsTable : (List ℕ → Option (Option ℕ)) → List (List ℕ × ℕ) → Type 0
IsTable table xs = (w : List ℕ) → found (table w) ≡ variable_of xs w

-- each tells what it hides of those before it
abbrev pub Hide : List (List ℕ × ℕ) → List InScope → Type 0
Hide before [] = Unit {0}
Hide before (x ∷ xs) = (x.hides ≡ variable_of before x.name) × Hide (before ++ pair x ∷ []) xs
