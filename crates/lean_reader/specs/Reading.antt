-- What `read_defs` answers (PROMISES.md, "Each tool meets its meaning").
use Rattle.std.specs.Prelude.{◌≡◌, ℕ, true, false, List}
use Rattle.aen_base.specs.declared.limits.Which.TheVariants.{TextNesting}
use Rattle.pure_ast.specs.declared.def.Defs.{Defs}
use Rattle.text_meaning.specs.Reading.{ReadsText}
use Rattle.text_meaning.specs.Spelled.{tokens_of}
use Rattle.lean_reader.specs.declared.read.LeanFault.{LeanFault}
use Rattle.lean_reader.specs.declared.read.LeanFault.TheVariants.{Syntax, Limit, Memory}
use Rattle.lean_reader.specs.Faults.{IsFaultPlace}
use Rattle.text_syntax.specs.Brackets.{few_open}

-- the text is these definitions and no other, within the limit of brackets
pub record IsRead (text : List ℕ) (defs : Defs) : Type 0 where
  pub reads : ReadsText text defs
  pub only : (other : Defs) → ReadsText text other → other ≡ defs
  pub few : few_open 0 (tokens_of defs) ≡ true

-- the text is no printed text
abbrev pub IsUnread : List ℕ → Type 0
IsUnread text = (defs : Defs) → ReadsText text defs → ⊥

-- the text is a printed text in which too many brackets are open at once
pub record IsNested (text : List ℕ) : Type 0 where
  pub defs : Defs
  pub reads : ReadsText text defs
  pub many : few_open 0 (tokens_of defs) ≡ false

-- why a text is not read
abbrev pub IsFault : List ℕ → LeanFault → Type 0
IsFault text (Syntax span) = IsUnread text × IsFaultPlace text span
IsFault text (Limit which count) = (which ≡ TextNesting) × (count ≡ 10001) × IsNested text
IsFault text Memory = Unit {0}
