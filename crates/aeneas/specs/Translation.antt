-- A text is the translation of a content (PROMISES.md, "The translation means the program").
use Rattle.std.specs.Prelude.{ℕ, List}
use Rattle.pure_ast.specs.declared.def.Defs.{Defs}
use Rattle.sums_ast.specs.declared.function.Program.{Program}
use Rattle.text_meaning.specs.Reading.{ReadsText}
use Rattle.translate.specs.Lists.{Lists}
use Rattle.translate.specs.Means.{Means}
use Rattle.aeneas.specs.Source.{IsProgramOf}

-- the text is read as definitions, and these mean the program
pub record IsTextOf (program : Program) (text : List ℕ) : Type 0 where
  pub defs : Defs
  pub reads_text : ReadsText text defs
  pub lists : Lists program defs
  pub means : Means program defs

-- the content is read as one program, and the text means it
pub record IsTranslation (content text : List ℕ) : Type 0 where
  pub program : Program
  pub is_program : IsProgramOf content program
  pub is_text : IsTextOf program text
