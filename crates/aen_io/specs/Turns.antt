-- One turn of reading a whole file.
use Rattle.std.specs.Prelude.{◌≡◌, ℕ, ◌<◌, ◌≤◌, List, ◌++◌, length, take, drop}
use Rattle.aen_io.specs.Handed.{Handed, HandsOut}
use Rattle.aen_io.specs.Told.{Told, FaultAt}
use Rattle.aen_io.specs.declared.reading.ReadAll.{ReadAll}
use Rattle.aen_io.specs.declared.reading.ReadAll.TheVariants.{Failed, TooLong, Memory}

-- a turn fails by a fault with this name between the two counts, and then nothing was handed
-- out; or by want of memory for what one call handed out (PROMISES.md, "Safe and total")
abbrev pub IsFault : Told → List ℕ → ℕ → List Handed → List Handed → ℕ → ℕ → ReadAll → Type 0
IsFault told name at log then_log before after Failed = FaultAt told name before after × (then_log ≡ log)
IsFault told name at log then_log before after (TooLong n) = ⊥
IsFault told name at log then_log before after Memory = (bytes : List ℕ) × HandsOut log then_log name at bytes

-- a turn is one call more, whose n bytes were added (PROMISES.md, "Safe and total")
pub record Adds (name : List ℕ) (log then_log : List Handed) (n : ℕ) (old new : List ℕ) : Type 0 where
  pub bytes : List ℕ
  pub size : length bytes ≡ n
  pub call : HandsOut log then_log name (length old) bytes
  pub added : new ≡ old ++ bytes

-- a turn with this much room added the next n bytes of the content; none only at its end
-- (PROMISES.md, "Safe and total")
pub record GoesOn (content : List ℕ) (n room : ℕ) (old new : List ℕ) : Type 0 where
  pub bytes : new ≡ old ++ take n (drop (length old) content)
  pub end : n ≡ 0 → 0 < room → length content ≤ length old
