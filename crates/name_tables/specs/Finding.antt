-- Things that are found by their names.
use Rattle.std.specs.Prelude.{ℕ, suc, if◌then◌else◌, List, [], ◌∷◌, Option, Some, None, option_map, bytes_eq}

-- the first item of this name, with its place
abbrev pub find : {A : Type 0} → (A → List ℕ) → List A → List ℕ → Option (ℕ × A)
find f [] a = None
find f (x ∷ xs) a = if bytes_eq (f x) a then Some (0, x) else option_map (λ p. (suc p.0, p.1)) (find f xs a)

-- the place of the first of some names that is this one
abbrev pub place_of : List (List ℕ) → List ℕ → Option ℕ
place_of [] a = None
place_of (n ∷ ns) a = if bytes_eq n a then Some 0 else option_map (λ k. suc k) (place_of ns a)

-- the first that there is
abbrev pub or_else : {A : Type 0} → Option A → Option A → Option A
or_else None o = o
or_else (Some x) o = Some x
