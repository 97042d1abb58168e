-- What the lexemes of a source come to: a program, or why they are none (LANGUAGE.md, "Grammar", "Limits").
use Rattle.std.specs.Prelude.{◌≡◌, ℕ, if◌then◌else◌, List, [], ◌∷◌, Option, Some, None, slice_get}
use denote.Enum.Bare.{sameb}
use Rattle.aen_base.specs.declared.limits.Which.{Which}
use Rattle.aen_base.specs.declared.limits.Which.TheVariants as W
use Rattle.aen_base.specs.declared.span.Span.{Span}
use Rattle.table_reader.specs.declared.symbol.Symbol.{Symbol}
use Rattle.table_reader.specs.declared.symbol.Symbol.TheVariants as S
use Rattle.table_reader.specs.Derivations as table
use Rattle.rust_lex.specs.contracts.token.Kind.{the_type}
use Rattle.rust_lex.specs.declared.token.Kind.TheVariants as K
use Rattle.rust_lex.specs.declared.token.Token.{Token}
use Rattle.source_grammar.specs.declared.lexeme.Lexeme.{Lexeme}
use Rattle.source_grammar.specs.declared.part.Part.{Part}
use Rattle.source_grammar.specs.declared.part.Part.TheVariants as N
use Rattle.source_grammar.specs.declared.terminal.Terminal.{Terminal}
use Rattle.source_grammar.specs.Lexemes.{takes}
use Rattle.source_grammar.specs.Productions.{productions}
use Rattle.source_syntax.specs.declared.refusal.Refusal.{Refusal}
use Rattle.source_syntax.specs.declared.refusal.Refusal.TheVariants as R
use Rattle.source_syntax.specs.Limits.{PassesNesting, PassesDepth, PassesElse}

abbrev pub program : List (Symbol Terminal Part)
program = S.Part N.Program ∷ []

-- these lexemes are a program
abbrev pub IsProgram : List Lexeme → Type 0
IsProgram ls = table.Derives takes productions program ls

-- a program begins with these lexemes
abbrev pub IsViable : List Lexeme → Type 0
IsViable ls = table.IsViable takes productions program ls

-- the first lexeme such that no program begins with the lexemes up to it, or the end where more has to come
abbrev pub IsFault : List Lexeme → ℕ → Type 0
IsFault ls k = table.IsFault takes productions program ls k

-- the place of the first excluded word
abbrev pub first_excluded : List Token → Option Span
first_excluded [] = None
first_excluded (t ∷ ts) = if sameb the_type t.kind K.Excluded then Some t.span else first_excluded ts

-- the first limit that is passed, in this order, and its count
abbrev pub IsPassed : List Lexeme → Which → ℕ → Type 0
IsPassed ls W.Nesting n = (n ≡ 101) × PassesNesting ls
IsPassed ls W.Depth n = (n ≡ 251) × (PassesNesting ls → ⊥) × PassesDepth ls
IsPassed ls W.Else n = (n ≡ 251) × (PassesNesting ls → ⊥) × (PassesDepth ls → ⊥) × PassesElse ls
IsPassed ls which n = ⊥

abbrev pub KeepsLimits : List Lexeme → Type 0
KeepsLimits ls = (PassesNesting ls → ⊥) × (PassesDepth ls → ⊥) × (PassesElse ls → ⊥)

-- of lexemes up to a lexical fault, if there is one, in a text of so many bytes: the first lexeme that ends all
-- programs; where none does, the lexical fault; where there is none, and more has to come, the empty span at the end
pub data IsSyntaxFault (ls : List Lexeme) (bad : Option Span) (end : ℕ) : Span → Type 0 where
  token : {l : Lexeme} (k : ℕ) → IsFault ls k → slice_get ls k ≡ Some l → IsSyntaxFault ls bad end l.span
  lexical : {span : Span} → IsViable ls → bad ≡ Some span → IsSyntaxFault ls bad end span
  unfinished : IsViable ls → (IsProgram ls → ⊥) → bad ≡ None → IsSyntaxFault ls bad end (record { lo = end; hi = end })

-- each refusal of tokens, which are these lexemes, has its cause: an excluded word comes before limits, and limits
-- before the grammar
abbrev pub IsCause : List Token → List Lexeme → Option Span → ℕ → Refusal → Type 0
IsCause ts ls bad end (R.Unsupported span) = first_excluded ts ≡ Some span
IsCause ts ls bad end (R.Limit which n) = (first_excluded ts ≡ None) × IsPassed ls which n
IsCause ts ls bad end (R.Syntax span) = (first_excluded ts ≡ None) × KeepsLimits ls × IsSyntaxFault ls bad end span

-- a program within the limits, without excluded words and lexical faults
abbrev pub IsKept : List Token → List Lexeme → Option Span → Type 0
IsKept ts ls bad = (first_excluded ts ≡ None) × KeepsLimits ls × (bad ≡ None) × IsProgram ls
