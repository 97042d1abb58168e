-- A file as a source: read whole within the limit, and one program; or why it is none
-- (PROMISES.md, "Safe and total").
use Rattle.std.specs.Prelude.{◌≡◌, ◌⊎◌, ℕ, List, map, Some, None}
use Rattle.aen_base.specs.declared.limits.Which.TheVariants as L
use Rattle.rust_ast.specs.declared.resolution.Resolved.{Resolved}
use Rattle.rust_sums.specs.Sums.{sums_of}
use Rattle.sums_ast.specs.declared.function.Function.{Function}
use Rattle.sums_ast.specs.declared.function.Program.{Program}
use Rattle.source_meaning.specs.Typing.{IsTyped}
use Rattle.text_meaning.specs.WellFormedTypes.{AreNames}
use Rattle.aeneas.specs.declared.refusal.Refusal.{Refusal}
use Rattle.aeneas.specs.declared.refusal.Refusal.TheVariants as R
use Rattle.aeneas.specs.Names.{IsResolved, BreaksNames}
use Rattle.aeneas.specs.Seen.{Seen, OfFile, ReadRefusal}
use Rattle.aeneas.specs.Syntax.{BreaksSyntax}
use Rattle.aeneas.specs.Utf8.{IsNoUtf8}

-- the content is this program of sums: read, its names resolved
pub record Reads (content : List ℕ) (program : Program) : Type 0 where
  pub resolved : Resolved
  pub is_resolved : IsResolved content resolved
  pub sums : sums_of resolved ≡ Some program

-- 30: the content is a program with names resolved, and none of what is translated today
pub record IsLater (content : List ℕ) (refusal : Refusal) : Type 0 where
  pub is : refusal ≡ R.Later
  pub resolved : Resolved
  pub is_resolved : IsResolved content resolved
  pub cause : sums_of resolved ≡ None

-- what is wrong with a content
abbrev pub SourceFault : List ℕ → Refusal → Type 0
SourceFault content refusal = IsNoUtf8 content refusal ⊎ (BreaksSyntax content refusal ⊎ (BreaksNames content refusal ⊎ IsLater content refusal))

abbrev pub function_names : Program → List (List ℕ)
function_names program = map (λ (f : Function). f.name) program.functions

-- the content is this program and no other
pub record IsProgramOf (content : List ℕ) (program : Program) : Type 0 where
  pub reads : Reads content program
  pub only : (other : Program) → Reads content other → other ≡ program
  pub typed : IsTyped program
  pub names : AreNames (function_names program)

-- the file is this program
abbrev pub IsSource : Seen → List ℕ → Program → Type 0
IsSource s file program = OfFile L.Source s file (λ content. IsProgramOf content program)

-- why a file is no source
abbrev pub SourceRefusal : Seen → List ℕ → Refusal → Type 0
SourceRefusal s file refusal = ReadRefusal L.Source s file refusal ⊎ OfFile L.Source s file (λ content. SourceFault content refusal)
