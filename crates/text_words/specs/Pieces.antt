-- What is left of a text after a piece that it begins with.
use Rattle.std.specs.Prelude.{ℕ, ◌==◌, Bool, true, false, if◌then◌else◌, List, [], ◌∷◌, Option, Some, None}

abbrev pub after : List ℕ → List ℕ → Option (List ℕ)
after [] text = Some text
after (c ∷ piece) [] = None
after (c ∷ piece) (d ∷ text) = if c == d then after piece text else None

-- whether there is a rest, and it is empty
abbrev pub is_end : Option (List ℕ) → Bool
is_end None = false
is_end (Some []) = true
is_end (Some (c ∷ rest)) = false
