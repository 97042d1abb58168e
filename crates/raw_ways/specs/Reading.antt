-- Lexemes are read as a part of a printed text, as it is spelled (TEXT.md, "Grammar").
use Rattle.std.specs.Prelude.{◌≡◌, ℕ, List, [], ◌∷◌}
use Rattle.table_reader.specs.declared.symbol.Symbol.TheVariants as S
use Rattle.table_reader.specs.Derivations as table
use Rattle.table_reader.specs.Reading as engine
use Rattle.text_table.specs.declared.lexeme.Lexeme.{Lexeme}
use Rattle.text_table.specs.declared.part.Part.{Part}
use Rattle.text_table.specs.Lexemes.{takes}
use Rattle.text_table.specs.Productions.{productions}
use Rattle.raw_values.specs.Carriers.{carrier}
use Rattle.raw_ways.specs.Makes.{made}

-- a part is read of lexemes as this, and others are left
abbrev pub Reads : (n : Part) → List Lexeme → List Lexeme → carrier n → Type 0
Reads n ls us v = engine.Reads takes carrier made n ls us v

-- a part is read of all these lexemes as this, and as nothing else
pub record IsRead (n : Part) (ls : List Lexeme) (it : carrier n) : Type 0 where
  pub reads : Reads n ls [] it
  pub only : (other : carrier n) → Reads n ls [] other → other ≡ it

-- a part is not read of all these lexemes
abbrev pub IsNotRead : Part → List Lexeme → Type 0
IsNotRead n ls = (it : carrier n) → Reads n ls [] it → ⊥

-- the first fault of lexemes that are no such part stands in this place
abbrev pub IsFault : Part → List Lexeme → ℕ → Type 0
IsFault n ls place = table.IsFault takes productions (S.Part n ∷ []) ls place
