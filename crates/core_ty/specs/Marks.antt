-- How the search for endless types holds what it knows.
use Rattle.std.specs.Prelude.{◌≡◌, ◌⊎◌, ℕ, ◌+◌, ◌<◌, Bool, true, false, if◌then◌else◌, List, [], ◌∷◌, length, map, Some, slice_get, unwrap_or}
use Rattle.std.specs.List.{All, Contains}
use Rattle.core_ty.specs.declared.decl.TypeDecl.{TypeDecl}
use Rattle.core_ty.specs.declared.parts.Part.{Part}
use Rattle.core_ty.specs.declared.parts.Part.TheVariants.{Parameter, Declared}
use Rattle.core_ty.specs.Containment.{Table, IsClosed, IsEndless, parts_of_variants}

-- whether a mark stands in place k; none stands past the end
abbrev pub is_set : List Bool → ℕ → Bool
is_set row k = unwrap_or (slice_get row k) false

-- the marks of declared type d; none where it has no row
abbrev pub row_of : List (List Bool) → ℕ → List Bool
row_of rows d = unwrap_or (slice_get rows d) []

-- the table of the marks of type parameters, a row for each declared type
abbrev pub marked : List (List Bool) → Table
marked rows d (Parameter k) = is_set (row_of rows d) k
marked rows d (Declared e) = false

-- a row for each declared type, with a place for each of its type parameters
abbrev pub HasShape : List TypeDecl → List (List Bool) → Type 0
HasShape ds rows = map length rows ≡ map (λ decl. length decl.params) ds

-- each mark is in each closed table
abbrev pub AreSound : List TypeDecl → List (List Bool) → Type 0
AreSound ds rows = (has : Table) → IsClosed ds has → (d k : ℕ) → marked rows d (Parameter k) ≡ true → has d (Parameter k) ≡ true

-- a type parameter that has a place in the row has its mark there
abbrev pub IsMarked : List Bool → Part → Type 0
IsMarked row (Parameter k) = k < length row → is_set row k ≡ true
IsMarked row (Declared e) = Unit {0}

-- the parts of a declaration by the marks
abbrev pub parts_by : List (List Bool) → TypeDecl → List Part
parts_by rows decl = parts_of_variants (marked rows) decl.variants

-- each type parameter that declaration d has outside Box is marked
abbrev pub IsComplete : List TypeDecl → List (List Bool) → ℕ → Type 0
IsComplete ds rows d = (decl : TypeDecl) → slice_get ds d ≡ Some decl → All (IsMarked (row_of rows d)) (parts_by rows decl)

-- declaration d has its type parameter k outside Box, by the marks, and k is not marked
abbrev pub IsUnmarked : List TypeDecl → List (List Bool) → ℕ → ℕ → Type 0
IsUnmarked ds rows d k = (decl : TypeDecl) × (slice_get ds d ≡ Some decl)
    × ((k < length (row_of rows d)) × (is_set (row_of rows d) k ≡ false) × Contains (parts_by rows decl) (Parameter k))

-- a declared type that has a place in the list has its mark there
abbrev pub IsSeen : List Bool → Part → Type 0
IsSeen seen (Parameter k) = Unit {0}
IsSeen seen (Declared e) = e.0 < length seen → is_set seen e.0 ≡ true

abbrev pub type_number : ℕ → Part
type_number e = Declared (record { 0 = e })

-- the types marked in `seen` are the declared types that declaration `start` contains
pub record IsReach (ds : List TypeDecl) (rows : List (List Bool)) (start : ℕ) (seen : List Bool) : Type 0 where
  pub same : length seen ≡ length ds
  pub sound : (has : Table) → IsClosed ds has → (e : ℕ) → is_set seen e ≡ true → has start (type_number e) ≡ true
  pub first : (decl : TypeDecl) → slice_get ds start ≡ Some decl → All (IsSeen seen) (parts_by rows decl)
  pub onward : (e : ℕ) (decl : TypeDecl) → is_set seen e ≡ true → slice_get ds e ≡ Some decl → All (IsSeen seen) (parts_by rows decl)

-- `new` is `seen` with marks for the declared types among the parts
pub record Sees (ps : List Part) (seen : List Bool) (new : List Bool) : Type 0 where
  pub same : length new ≡ length seen
  pub kept : (e : ℕ) → is_set seen e ≡ true → is_set new e ≡ true
  pub all : All (IsSeen new) ps
  pub from : (e : ℕ) → is_set new e ≡ true → (is_set seen e ≡ true) ⊎ Contains ps (type_number e)

-- the search for them: the types marked in `done` are those whose parts are all marked in `seen`
pub record IsSearch (ds : List TypeDecl) (rows : List (List Bool)) (start : ℕ) (seen : List Bool) (done : List Bool) : Type 0 where
  pub same : length seen ≡ length ds
  pub same_done : length done ≡ length ds
  pub sound : (has : Table) → IsClosed ds has → (e : ℕ) → is_set seen e ≡ true → has start (type_number e) ≡ true
  pub first : (decl : TypeDecl) → slice_get ds start ≡ Some decl → All (IsSeen seen) (parts_by rows decl)
  pub onward : (e : ℕ) (decl : TypeDecl) → is_set done e ≡ true → slice_get ds e ≡ Some decl → All (IsSeen seen) (parts_by rows decl)

-- none of the declarations marked contains itself
abbrev pub IsClear : List TypeDecl → List Bool → Type 0
IsClear ds marks = (e : ℕ) → is_set marks e ≡ true → IsEndless ds e → ⊥

-- how many places have no mark
abbrev pub unset : List Bool → ℕ
unset [] = 0
unset (b ∷ bs) = (if b then 0 else 1) + unset bs

abbrev pub unmarked : List (List Bool) → ℕ
unmarked [] = 0
unmarked (row ∷ rows) = unset row + unmarked rows
