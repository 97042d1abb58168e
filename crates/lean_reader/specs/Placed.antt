-- What the steps of reading a text tell.
use Rattle.std.specs.Prelude.{◌≡◌, ◌⊎◌, ◌<◌, ℕ, Bool, true, false, List, [], length, Option, Some, None, Result, Ok, Err}
use Rattle.aen_base.specs.declared.limits.Which.TheVariants.{TextNesting}
use Rattle.aen_base.specs.declared.span.Span.{Span}
use Rattle.pure_ast.specs.declared.def.Defs.{Defs}
use Rattle.text_table.specs.declared.lexeme.Lexeme.{Lexeme}
use Rattle.text_tokens.specs.Scan.{span}
use Rattle.raw_ast.specs.declared.declarations.RawText.{RawText}
use Rattle.text_table.specs.declared.part.Part.TheVariants as N
use Rattle.raw_meaning.specs.Faults.{faults}
use Rattle.raw_meaning.specs.Trees.{definitions}
use Rattle.raw_ways.specs.Reading as raw
use Rattle.text_names.specs.Settled.{first}
use Rattle.lean_reader.specs.declared.read.LeanFault.{LeanFault}
use Rattle.lean_reader.specs.declared.read.LeanFault.TheVariants.{Syntax, Limit, Memory}
use Rattle.lean_reader.specs.Faults.{IsSpanOf}

-- behind all tokens: the character that is none, or the end
abbrev pub IsBehind : Option Span → ℕ → Span → Type 0
IsBehind (Some bad) end place = place ≡ bad
IsBehind None end place = place ≡ span end end

-- where the fault of the lexeme with this number stands
pub record IsPlaced (ls : List Lexeme) (number : ℕ) (bad : Option Span) (end : ℕ) (place : Span) : Type 0 where
  pub here : number < length ls → IsSpanOf ls number place
  pub behind : number ≡ length ls → IsBehind bad end place

-- lexemes that are no text, and the place of their first fault of the grammar
pub record IsMisread (ls : List Lexeme) (bad : Option Span) (end : ℕ) (place : Span) : Type 0 where
  pub number : ℕ
  pub none : raw.IsNotRead N.Text ls
  pub fault : raw.IsFault N.Text ls number
  pub placed : IsPlaced ls number bad end place

-- the text that lexemes are read as, or where they are none
abbrev pub IsRaw : List Lexeme → Option Span → ℕ → Result RawText Span → Type 0
IsRaw ls bad end (Ok text) = raw.IsRead N.Text ls text
IsRaw ls bad end (Err place) = IsMisread ls bad end place

-- what lexemes that are read as this text come to, where they stop at this fault, and where their brackets are few
abbrev pub IsWithin : RawText → Option Span → Bool → Result Defs LeanFault → Type 0
IsWithin text bad few (Ok defs) = (bad ≡ None) × (faults text ≡ []) × (definitions text ≡ Some defs) × (few ≡ true)
IsWithin text bad few (Err (Syntax place)) = (bad ≡ Some place) ⊎ ((bad ≡ None) × (first (faults text) ≡ Some place))
IsWithin text bad few (Err (Limit which count)) =
    (which ≡ TextNesting) × (count ≡ 10001) × (bad ≡ None) × (faults text ≡ []) × ((defs : Defs) × ((definitions text ≡ Some defs) × (few ≡ false)))
IsWithin text bad few (Err Memory) = Unit {0}
