-- Names that spell the place of a part.
use Rattle.std.specs.Prelude.{Bool, false, ℕ, ◌==◌, List, [], ◌∷◌}

-- several bytes, of which the first is the digit 0
abbrev pub begins_with_zero : List ℕ → Bool
begins_with_zero [] = false
begins_with_zero (c ∷ []) = false
begins_with_zero (c ∷ d ∷ cs) = c == 48
