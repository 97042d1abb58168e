-- What one call saw of the files (PROMISES.md, "What was read").
use Rattle.std.specs.Prelude.{◌≡◌, ℕ, ◌+◌, ◌<◌, ◌≤◌, ◌⊎◌, List, [], length}
use Rattle.aen_base.specs.declared.limits.Which.{Which}
use Rattle.aen_io.specs.Handed.{Handed, joined, since, IsInOrder, ReachesEnd}
use Rattle.aen_io.specs.Told.{Told, OfContent, FaultAt}
use Rattle.aeneas.specs.declared.refusal.Refusal.{Refusal}
use Rattle.aeneas.specs.declared.refusal.Refusal.TheVariants as R
use Rattle.aeneas.specs.Limits.{greatest}

-- the content that the files tell, what they handed out in this call, and their counts of faults
-- before and after it
pub record Seen : Type 0 where
  pub told : Told
  pub handed : List Handed
  pub before : ℕ
  pub after : ℕ

-- between two states of the files
abbrev pub seen : {F : Type 0} → (F → Told) → (F → List Handed) → (F → ℕ) → F → F → Seen
seen told handed faults old new =
    record { told = told old; handed = since (handed old) (handed new); before = faults old; after = faults new }

-- the bytes that were read: all that the files handed out in this call, in order
abbrev pub bytes_read : Seen → List ℕ
bytes_read s = joined s.handed

-- nothing was read, and no fault counted
pub record ReadsNothing (s : Seen) : Type 0 where
  pub none : s.handed ≡ []
  pub same : s.after ≡ s.before

-- the file was read whole, within a limit: its bytes alone, in order, from its first byte to its
-- end; where content is told, they are that content
pub record IsReadWhole (which : Which) (s : Seen) (file : List ℕ) : Type 0 where
  pub order : IsInOrder file 0 s.handed
  pub ended : ReachesEnd s.handed
  pub within : length (bytes_read s) ≤ greatest which
  pub told_is : OfContent s.told file (λ c. bytes_read s ≡ c)

-- 2: reading failed after a front of the file, by a fault that was counted in this call
pub record CannotRead (which : Which) (s : Seen) (file : List ℕ) (refusal : Refusal) : Type 0 where
  pub is : refusal ≡ R.Read
  pub order : IsInOrder file 0 s.handed
  pub within : length (bytes_read s) ≤ greatest which
  pub cause : FaultAt s.told file s.before s.after

-- 10: one byte more than the limit was read; a content that is told is longer than the limit
pub record IsTooLong (which : Which) (s : Seen) (file : List ℕ) (refusal : Refusal) : Type 0 where
  pub is : refusal ≡ R.Limit which (greatest which + 1)
  pub order : IsInOrder file 0 s.handed
  pub cause : length (bytes_read s) ≡ greatest which + 1
  pub told_is : OfContent s.told file (λ c. greatest which < length c)

-- why a file was not read whole
abbrev pub ReadRefusal : Which → Seen → List ℕ → Refusal → Type 0
ReadRefusal which s file refusal = CannotRead which s file refusal ⊎ IsTooLong which s file refusal

-- the bytes that were read are the file, and this holds of them
pub record OfFile (which : Which) (s : Seen) (file : List ℕ) (Holds : List ℕ → Type 0) : Type 0 where
  pub read : IsReadWhole which s file
  pub holds : Holds (bytes_read s)
