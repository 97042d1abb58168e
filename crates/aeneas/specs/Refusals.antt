-- The refusals: each with its status and its line (README.md, "Statuses").
use Rattle.std.specs.Prelude.{◌≡◌, ℕ, List, ◌++◌, codes}
use Rattle.std.specs.Fmt.{decimal}
use Rattle.aen_base.specs.declared.span.Span.{Span}
use Rattle.aeneas.specs.declared.refusal.Refusal.{Refusal}
use Rattle.aeneas.specs.declared.refusal.Refusal.TheVariants.{Usage, Read, Utf8, Syntax, Unsupported, Unknown, Twice, Later, Limit, Count, Argument, Types, Text, Name}
use Rattle.aeneas.specs.Limits.{limit_word}
use Rattle.aeneas.specs.Lines.{line}

-- the status
abbrev pub refusal_status : Refusal → ℕ
refusal_status Usage = 1
refusal_status Read = 2
refusal_status (Utf8 valid) = 4
refusal_status (Syntax span) = 5
refusal_status (Unsupported span) = 6
refusal_status (Unknown span) = 7
refusal_status (Twice first second) = 7
refusal_status Later = 30
refusal_status (Limit which count) = 10
refusal_status (Count expected given) = 11
refusal_status (Argument place) = 11
refusal_status Types = 11
refusal_status (Text span) = 12
refusal_status Name = 13

-- a word and a place
abbrev pub place_text : List ℕ → Span → List ℕ
place_text word span = word ++ (codes " " ++ (decimal span.lo ++ (codes ".." ++ decimal span.hi)))

-- a word and two places
abbrev pub places_text : List ℕ → Span → Span → List ℕ
places_text word first second =
    word ++ (codes " " ++ (decimal first.lo ++ (codes ".." ++ (decimal first.hi ++ (codes " " ++ (decimal second.lo ++ (codes ".." ++ decimal second.hi)))))))

-- what the line says of it
abbrev pub refusal_text : Refusal → List ℕ
refusal_text Usage = codes "usage"
refusal_text Read = codes "read"
refusal_text (Utf8 valid) = codes "utf8 " ++ decimal valid
refusal_text (Syntax span) = place_text (codes "syntax") span
refusal_text (Unsupported span) = place_text (codes "unsupported") span
refusal_text (Unknown span) = place_text (codes "unknown") span
refusal_text (Twice first second) = places_text (codes "twice") first second
refusal_text Later = codes "later"
refusal_text (Limit which count) = codes "limit " ++ (limit_word which ++ (codes " " ++ decimal count))
refusal_text (Count expected given) = codes "count " ++ (decimal expected ++ (codes " " ++ decimal given))
refusal_text (Argument place) = codes "argument " ++ decimal place
refusal_text Types = codes "types"
refusal_text (Text span) = place_text (codes "text") span
refusal_text Name = codes "name"

-- the line: `refused`, the status, and what it says
abbrev pub refusal_line : Refusal → List ℕ
refusal_line r = codes "refused " ++ (decimal (refusal_status r) ++ (codes " " ++ line (refusal_text r)))

-- a reply is this refusal
abbrev pub IsRefusal : Refusal → ℕ → List ℕ → Type 0
IsRefusal r status text = (status ≡ refusal_status r) × (text ≡ refusal_line r)

-- a reply is a refusal with such a cause
pub record IsRefusedBy (Cause : Refusal → Type 0) (status : ℕ) (text : List ℕ) : Type 0 where
  pub refusal : Refusal
  pub cause : Cause refusal
  pub answer : IsRefusal refusal status text
