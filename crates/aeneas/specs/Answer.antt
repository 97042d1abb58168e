-- The answer of the top call (PROMISES.md).
use Rattle.std.specs.Prelude.{◌≡◌, ℕ, ◌⊎◌, List, []}
use Rattle.aen_base.specs.declared.limits.Which.TheVariants as L
use Rattle.aen_io.specs.Faults.{Rose}
use Rattle.aen_io.specs.Handed.{since}
use Rattle.aen_io.specs.Written.{WritesAll, WritesPart}
use Rattle.aeneas.specs.Reply.{IsReply}
use Rattle.aeneas.specs.Seen.{Seen, OfFile}
use Rattle.aeneas.specs.Translation.{IsTranslation}

-- what a sink took before a call and after it, and its counts of faults then
pub record Sunk : Type 0 where
  pub old : List ℕ
  pub new : List ℕ
  pub before : ℕ
  pub after : ℕ

-- between two states of the sink
abbrev pub sunk : {K : Type 0} → (K → List ℕ) → (K → ℕ) → K → K → Sunk
sunk taken faults old new = record { old = taken old; new = taken new; before = faults old; after = faults new }

-- the bytes that a call gave to the sink
abbrev pub bytes_given : Sunk → List ℕ
bytes_given k = since k.old k.new

-- 99: want of memory, and nothing was written
pub record WantsMemory (k : Sunk) (status : ℕ) : Type 0 where
  pub status_is : status ≡ 99
  pub nothing : WritesAll k.old k.new []

-- 3: the sink failed in this call, after a prefix of the reply
pub record CannotWrite (words : List (List ℕ)) (s : Seen) (k : Sunk) (status : ℕ) : Type 0 where
  pub status_is : status ≡ 3
  pub cause : Rose k.before k.after
  pub reply_status : ℕ
  pub text : List ℕ
  pub reply : IsReply words s reply_status text
  pub prefix : WritesPart k.old k.new text

-- every other status: the reply was written whole
pub record IsAnswered (words : List (List ℕ)) (s : Seen) (k : Sunk) (status : ℕ) : Type 0 where
  pub text : List ℕ
  pub reply : IsReply words s status text
  pub whole : WritesAll k.old k.new text

abbrev pub Answers : List (List ℕ) → Seen → Sunk → ℕ → Type 0
Answers words s k status = WantsMemory k status ⊎ (CannotWrite words s k status ⊎ IsAnswered words s k status)

-- the bytes that this call read are the file, and one program; those that it gave to the sink are
-- its translation
abbrev pub Translates : Seen → List ℕ → Sunk → Type 0
Translates s file k = OfFile L.Source s file (λ content. IsTranslation content (bytes_given k))
