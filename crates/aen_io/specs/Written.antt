-- What a call adds to the bytes that a sink took.
use Rattle.std.specs.Prelude.{◌≡◌, ℕ, List, ◌++◌, take}

-- the bytes that were taken are the old ones followed by exactly this text
-- (PROMISES.md, "Safe and total")
abbrev pub WritesAll : List ℕ → List ℕ → List ℕ → Type 0
WritesAll old new text = new ≡ old ++ text

-- the bytes that were taken are the old ones followed by a prefix of this text
-- (PROMISES.md, "Safe and total")
abbrev pub WritesPart : List ℕ → List ℕ → List ℕ → Type 0
WritesPart old new text = (n : ℕ) × WritesAll old new (take n text)
