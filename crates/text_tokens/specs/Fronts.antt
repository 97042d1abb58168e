-- The longest beginning of a text that passes a test, and the rest.
use Rattle.std.specs.Prelude.{ℕ, Bool, false, if◌then◌else◌, List, [], ◌∷◌, ◌&&◌, ◌==◌, Option, Some, None, ◌+◌}
use Rattle.std.specs.Option.{option_map}

abbrev pub front : (ℕ → Bool) → List ℕ → List ℕ
front test [] = []
front test (c ∷ cs) = if test c then c ∷ front test cs else []

abbrev pub back : (ℕ → Bool) → List ℕ → List ℕ
back test [] = []
back test (c ∷ cs) = if test c then back test cs else c ∷ cs

-- whether a text begins with these two bytes
abbrev pub begins_two : ℕ → ℕ → List ℕ → Bool
begins_two a b [] = false
begins_two a b (c ∷ []) = false
begins_two a b (c ∷ d ∷ rest) = (c == a) && (d == b)

abbrev pub past : List ℕ → List ℕ
past [] = []
past (c ∷ cs) = cs

-- how many bytes stand before the first `»`
abbrev pub close_at : List ℕ → Option ℕ
close_at [] = None
close_at (c ∷ cs) = if begins_two 194 187 (c ∷ cs) then Some 0 else option_map (λ n. n + 1) (close_at cs)
