-- The places of keys in a list.
use Rattle.std.specs.Prelude.{ℕ, suc, Bool, if◌then◌else◌, List, [], ◌∷◌, Option, Some, None}
use Rattle.std.specs.Option.{option_map}

-- the place of the first key that equals this one
abbrev pub place_by : {K : Type 0} → (K → K → Bool) → List K → K → Option ℕ
place_by eq [] k = None
place_by eq (x ∷ xs) k = if eq x k then Some 0 else option_map (λ n. suc n) (place_by eq xs k)
