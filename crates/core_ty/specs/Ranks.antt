-- Ranks of declarations, by which it is seen at once that most don't contain themselves.
use Rattle.std.specs.Prelude.{◌≡◌, ℕ, ◌-◌, ◌<◌, ◌≤◌, Bool, List, length, Some, slice_get, unwrap_or}
use Rattle.std.specs.List.{All}
use Rattle.core_ty.specs.declared.decl.TypeDecl.{TypeDecl}
use Rattle.core_ty.specs.declared.parts.Part.{Part}
use Rattle.core_ty.specs.declared.parts.Part.TheVariants.{Parameter, Declared}
use Rattle.core_ty.specs.Marks.{parts_by}

-- the rank of declaration d
abbrev pub rank_of : List ℕ → ℕ → ℕ
rank_of ranks d = unwrap_or (slice_get ranks d) 0

-- a part that is a declared type with a rank has none above `top`
abbrev pub IsWithin : List ℕ → ℕ → Part → Type 0
IsWithin ranks top (Parameter k) = Unit {0}
IsWithin ranks top (Declared e) = e.0 < length ranks → rank_of ranks e.0 ≤ top

-- no part of declaration d has a higher rank
abbrev pub IsRanked : List TypeDecl → List (List Bool) → List ℕ → ℕ → Type 0
IsRanked ds rows ranks d = (decl : TypeDecl) → slice_get ds d ≡ Some decl → All (IsWithin ranks (rank_of ranks d)) (parts_by rows decl)

-- each declaration has a rank, and no part of it has a higher one
abbrev pub AreRanks : List TypeDecl → List (List Bool) → List ℕ → Type 0
AreRanks ds rows ranks = (length ranks ≡ length ds) × ((d : ℕ) → IsRanked ds rows ranks d)

-- each part of declaration d has a lower rank
abbrev pub Falls : List TypeDecl → List (List Bool) → List ℕ → ℕ → Type 0
Falls ds rows ranks d = (0 < rank_of ranks d)
    × ((decl : TypeDecl) → slice_get ds d ≡ Some decl → All (IsWithin ranks (rank_of ranks d - 1)) (parts_by rows decl))
