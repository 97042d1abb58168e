-- What the tokens of a text come to, as a source or as a function's name (docs/LANGUAGE.md, "Grammar", "Limits").
use Rattle.std.specs.Prelude.{◌≡◌, ℕ, List, [], ◌∷◌, Option, None, MatchOption, Result, Ok, Err, MatchResult, length}
use Rattle.aen_base.specs.declared.span.Span.{Span}
use Rattle.table_reader.specs.declared.take.Take.TheVariants as K
use Rattle.table_reader.specs.Reading as table
use Rattle.rust_lex.specs.declared.token.Token.{Token}
use Rattle.source_grammar.specs.declared.lexeme.Lexeme.{Lexeme}
use Rattle.source_grammar.specs.declared.part.Part.TheVariants as N
use Rattle.source_grammar.specs.declared.part.Listed.TheVariants as Of
use Rattle.source_grammar.specs.declared.terminal.Terminal.TheVariants as T
use Rattle.source_grammar.specs.Lexemes.{takes}
use Rattle.source_syntax.specs.declared.refusal.Refusal.TheVariants as R
use Rattle.source_syntax.specs.Refusals.{IsProgram, IsSyntaxFault, IsCause, IsKept}
use Rattle.source_syntax.specs.Spelled.{lexemes}
use Rattle.source_ways.specs.Carriers.{Carrier}
use Rattle.source_ways.specs.Reading.{Reads, made}
use Rattle.source_ways.specs.Says.{name_in}
use Rattle.rust_ast.specs.declared.program.Program.{Program}
use Rattle.rust_ast.specs.SourceTypes as t
use Rattle.rust_reader.specs.declared.fault.ReadFault.{ReadFault}
use Rattle.rust_reader.specs.declared.fault.ReadFault.TheVariants as F

-- lexemes up to a lexical fault are read as this program, and as no other; or this is where they are none, in a text of
-- so many bytes
abbrev pub IsRead : List Lexeme → Option Span → ℕ → Result Program Span → Type 0
IsRead ls bad end r =
    MatchResult r (λ p. (bad ≡ None) × IsProgram ls × Reads ls p × ((q : Program) → Reads ls q → q ≡ p)) (λ span. IsSyntaxFault ls bad end span)

-- what the tokens of a text come to, up to a lexical fault: the one program that its lexemes are read as, where there is
-- no cause to refuse it; or the first cause. Want of memory alone may come at any text
abbrev pub IsReading : List ℕ → List Token → Option Span → Result Program ReadFault → Type 0
IsReading text ts bad (Ok p) = IsKept ts (lexemes text None ts) bad × Reads (lexemes text None ts) p × ((q : Program) → Reads (lexemes text None ts) q → q ≡ p)
IsReading text ts bad (Err (F.Unsupported span)) = IsCause ts (lexemes text None ts) bad (length text) (R.Unsupported span)
IsReading text ts bad (Err (F.Limit which n)) = IsCause ts (lexemes text None ts) bad (length text) (R.Limit which n)
IsReading text ts bad (Err (F.Syntax span)) = IsCause ts (lexemes text None ts) bad (length text) (R.Syntax span)
IsReading text ts bad (Err F.Memory) = Unit {0}

-- lexemes are read as types up to `>`
abbrev pub ReadsList : List Lexeme → Carrier (N.List Of.TypesInAngles) → Type 0
ReadsList ls v = table.Reads takes Carrier made (N.List Of.TypesInAngles) ls [] v

-- what stands after a name there: nothing, or `::<` and types up to `>`
pub data ReadsTypes : List Lexeme → List t.Written → Type 0 where
  nothing : ReadsTypes [] []
  given : (colons less : Lexeme) (rest : List Lexeme) (v : Carrier (N.List Of.TypesInAngles)) → takes T.Colons colons ≡ K.Whole → takes T.Less less ≡ K.Whole →
      ReadsList rest v → ReadsTypes (colons ∷ (less ∷ rest)) v.value

-- lexemes are a function's name as a command takes it: an identifier, perhaps with types
pub data ReadsCallName : List Lexeme → List ℕ → List t.Written → Type 0 where
  by : (name : Lexeme) (rest : List Lexeme) (tys : List t.Written) → takes T.Identifier name ≡ K.Whole → ReadsTypes rest tys → ReadsCallName (name ∷ rest) (name_in name.content) tys

-- the types up to `>`, and no others, or that lexemes are something else
abbrev pub AreListed : List Lexeme → Option (List t.Written) → Type 0
AreListed ls o =
    MatchOption o ((v : Carrier (N.List Of.TypesInAngles)) → ReadsList ls v → ⊥)
    (λ tys. (v : Carrier (N.List Of.TypesInAngles)) × (ReadsList ls v × (tys ≡ v.value) × ((other : Carrier (N.List Of.TypesInAngles)) → ReadsList ls other → other ≡ v)))

-- the types after a name, and no others, or that lexemes are something else
abbrev pub AreTypes : List Lexeme → Option (List t.Written) → Type 0
AreTypes ls o =
    MatchOption o ((tys : List t.Written) → ReadsTypes ls tys → ⊥) (λ tys. ReadsTypes ls tys × ((others : List t.Written) → ReadsTypes ls others → others ≡ tys))

-- of a text without a lexical fault: the name and the types that its lexemes are read as, and no others; or that there
-- is a fault, or the lexemes are no name
abbrev pub IsCallName : List Lexeme → Option Span → Option (List ℕ × List t.Written) → Type 0
IsCallName ls bad o =
    MatchOption o (bad ≡ None → (name : List ℕ) (tys : List t.Written) → ReadsCallName ls name tys → ⊥)
    (λ (name, tys). (bad ≡ None) × ReadsCallName ls name tys × ((other : List ℕ) (others : List t.Written) → ReadsCallName ls other others → (other ≡ name) × (others ≡ tys)))
