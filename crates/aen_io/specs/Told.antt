-- What a reader of files tells of their content.
use Rattle.std.specs.Prelude.{◌≡◌, ℕ, ◌<◌, ◌≤◌, List, length, take, drop, Option, None, Some, ◌⊎◌, IsSomeAnd}
use Rattle.aen_io.specs.Faults.{Rose}

-- nothing, or the content of each name; None for a name that isn't there
-- (PROMISES.md, "Safe and total")
abbrev pub Told : Type 0
Told = Option (List ℕ → Option (List ℕ))

-- where content is told: the name is there, and P holds of its content
-- (PROMISES.md, "Safe and total")
abbrev pub OfContent : Told → List ℕ → (List ℕ → Type 0) → Type 0
OfContent None name P = Unit {0}
OfContent (Some content) name P = IsSomeAnd (content name) P

-- content is told, and the name isn't there
-- (PROMISES.md, "Safe and total")
abbrev pub IsMissing : Told → List ℕ → Type 0
IsMissing None name = ⊥
IsMissing (Some content) name = content name ≡ None

-- a fault with this name: it is told to be missing, or a fault was counted
-- (PROMISES.md, "Safe and total")
abbrev pub FaultAt : Told → List ℕ → ℕ → ℕ → Type 0
FaultAt told name before after = IsMissing told name ⊎ Rose before after

-- the buffer begins with n bytes of the content from `at` on; a buffer that isn't empty gets none
-- only at the content's end (PROMISES.md, "Safe and total")
pub record IsPart (content : List ℕ) (at n : ℕ) (buffer : List ℕ) : Type 0 where
  pub bytes : take n buffer ≡ take n (drop at content)
  pub end : n ≡ 0 → 0 < length buffer → length content ≤ at
