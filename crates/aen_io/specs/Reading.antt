-- A whole file that was read, or why it wasn't.
use Rattle.std.specs.Prelude.{◌≡◌, ℕ, ◌+◌, ◌<◌, ◌≤◌, List, length}
use Rattle.aen_io.specs.Handed.{Handed, joined, IsInOrder, ReachesEnd}
use Rattle.aen_io.specs.Told.{Told, OfContent, FaultAt}
use Rattle.aen_io.specs.declared.reading.ReadAll.{ReadAll}
use Rattle.aen_io.specs.declared.reading.ReadAll.TheVariants.{Failed, TooLong, Memory}

-- these bytes are all that the calls handed out, of this file alone, in order, from its first
-- byte to its end (PROMISES.md, "Safe and total")
pub record IsWhole (name : List ℕ) (handed : List Handed) (bytes : List ℕ) : Type 0 where
  pub bytes_are : bytes ≡ joined handed
  pub order : IsInOrder name 0 handed
  pub ended : ReachesEnd handed

-- the cause of each answer: a fault with this name between the two counts, after at most the
-- limit of bytes; one byte more than the limit was handed out, of a content that is longer than
-- the limit; want of memory has none (PROMISES.md, "Safe and total")
abbrev pub IsCause : Told → List ℕ → ℕ → List Handed → ℕ → ℕ → ReadAll → Type 0
IsCause told name limit handed before after Failed = FaultAt told name before after × (length (joined handed) ≤ limit)
IsCause told name limit handed before after (TooLong n) =
    (n ≡ limit + 1) × (length (joined handed) ≡ limit + 1) × OfContent told name (λ c. limit < length c)
IsCause told name limit handed before after Memory = Unit {0}
