-- The place of a text's first fault (TEXT.md, "Faults").
use Rattle.std.specs.Prelude.{◌≡◌, ◌⊎◌, ℕ, List, [], ◌∷◌, length, map, slice_get, Option, Some, None}
use Rattle.aen_base.specs.declared.span.Span.{Span}
use Rattle.table_reader.specs.declared.symbol.Symbol.TheVariants as S
use Rattle.table_reader.specs.Derivations as table
use Rattle.text_table.specs.declared.lexeme.Lexeme.{Lexeme}
use Rattle.text_table.specs.declared.part.Part.TheVariants as N
use Rattle.text_table.specs.Lexemes.{takes}
use Rattle.text_table.specs.Productions.{productions}
use Rattle.text_tokens.specs.declared.lexeme.Lexeme.{Lexeme as Spelled}
use Rattle.text_tokens.specs.declared.lexeme.Lexemes.{Lexemes}
use Rattle.text_tokens.specs.Lexing.{IsLexed}
use Rattle.text_tokens.specs.Scan.{span}
use Rattle.text_syntax.specs.Classing.{lexeme_of}
use Rattle.raw_ast.specs.declared.declarations.RawText.{RawText}
use Rattle.raw_meaning.specs.Faults.{faults}
use Rattle.raw_ways.specs.Reading as raw
use Rattle.text_names.specs.Settled.{first}

-- lexemes with their classes
abbrev pub classed : List Spelled → List Lexeme
classed ls = map lexeme_of ls

-- a lexeme stands there
pub record IsSpanOf (ls : List Lexeme) (k : ℕ) (place : Span) : Type 0 where
  pub lexeme : Lexeme
  pub at : slice_get ls k ≡ Some lexeme
  pub same : lexeme.span ≡ place

-- the first lexeme such that no text's tokens begin with the tokens up to it
pub record IsAtLexeme (ls : List Lexeme) (place : Span) : Type 0 where
  pub number : ℕ
  pub fault : raw.IsFault N.Text ls number
  pub span : IsSpanOf ls number place

-- the first character at which no token begins, and the tokens before it begin some text's tokens
pub record IsAtCharacter (ls : List Lexeme) (bad : Option Span) (place : Span) : Type 0 where
  pub fault : bad ≡ Some place
  pub before : table.IsViable takes productions (S.Part N.Text ∷ []) ls

-- the end, where more has to come
pub record IsAtEnd (text : List ℕ) (ls : List Lexeme) (bad : Option Span) (place : Span) : Type 0 where
  pub whole : bad ≡ None
  pub fault : raw.IsFault N.Text ls (length ls)
  pub empty : place ≡ span (length text) (length text)

-- the tokens are a text of the grammar, and there a rule beside it is broken first
pub record IsAtRule (ls : List Lexeme) (bad : Option Span) (place : Span) : Type 0 where
  pub whole : bad ≡ None
  pub spelled : RawText
  pub reads : raw.Reads N.Text ls [] spelled
  pub at : first (faults spelled) ≡ Some place

abbrev pub IsPlaceIn : List ℕ → List Lexeme → Option Span → Span → Type 0
IsPlaceIn text ls bad place = IsAtLexeme ls place ⊎ (IsAtCharacter ls bad place ⊎ (IsAtEnd text ls bad place ⊎ IsAtRule ls bad place))

pub record IsFaultPlace (text : List ℕ) (place : Span) : Type 0 where
  pub lexemes : Lexemes
  pub lexed : IsLexed text lexemes.list lexemes.fault
  pub at : IsPlaceIn text (classed lexemes.list) lexemes.fault place
