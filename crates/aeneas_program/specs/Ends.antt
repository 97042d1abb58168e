-- How the program ends (PROMISES.md, "Safe and total").
use Rattle.std.specs.Prelude.{◌≡◌, ℕ, List}
use Rattle.aeneas.specs.Answer.{Answers, Sunk, Translates}
use Rattle.aeneas.specs.Seen.{Seen}
use Rattle.aeneas.specs.Words.{IsTranslate}

-- with the status of the top call on these words
pub record EndsAs (words : List (List ℕ)) (s : Seen) (k : Sunk) (status : ℕ) : Type 0 where
  pub answer : Answers words s k status
  pub headline : status ≡ 0 → (file : List ℕ) → IsTranslate words file → Translates s file k
