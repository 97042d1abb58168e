-- What a text reads as (TEXT.md, "Reading").
use Rattle.std.specs.Prelude.{ℕ, List}
use Rattle.pure_ast.specs.declared.def.Defs.{Defs}
use Rattle.text_meaning.specs.Lexing.{Lexed}
use Rattle.text_meaning.specs.Spelled.{tokens_of}
use Rattle.text_meaning.specs.WellFormed.{IsWellFormed}

-- the text's tokens are those of the definitions, which are well-formed
pub record ReadsText (text : List ℕ) (defs : Defs) : Type 0 where
  pub tokens : Lexed (tokens_of defs) text
  pub well_formed : IsWellFormed defs
