-- The tokens and the grammar of a source (PROMISES.md, "Safe and total"; LANGUAGE.md, "Grammar").
use Rattle.std.specs.Prelude.{◌≡◌, ℕ, List, length, Option, None, IsUtf8}
use Rattle.aen_base.specs.declared.span.Span.{Span}
use Rattle.rust_ast.specs.declared.program.Program.{Program}
use Rattle.rust_lex.specs.Lexing.{AreTokens}
use Rattle.rust_lex.specs.declared.token.Token.{Token}
use Rattle.source_ways.specs.Reading.{Reads}
use Rattle.source_syntax.specs.declared.refusal.Refusal as syntax
use Rattle.source_syntax.specs.declared.refusal.Refusal.TheVariants as S
use Rattle.source_syntax.specs.Refusals.{IsKept, IsCause}
use Rattle.source_syntax.specs.Spelled.{lexemes}
use Rattle.aeneas.specs.declared.refusal.Refusal.{Refusal}
use Rattle.aeneas.specs.declared.refusal.Refusal.TheVariants as R

-- how a refusal of tokens is told
abbrev pub told : syntax.Refusal → Refusal
told (S.Unsupported span) = R.Unsupported span
told (S.Limit which count) = R.Limit which count
told (S.Syntax span) = R.Syntax span

-- the content is a text whose tokens are read as this program, as it is written, within the limits on
-- brackets, depth and `else`, without words that are left out
pub record IsWritten (content : List ℕ) (program : Program) : Type 0 where
  pub utf8 : IsUtf8 content
  pub tokens : List Token
  pub bad : Option Span
  pub are : AreTokens content tokens bad
  pub kept : IsKept tokens (lexemes content None tokens) bad
  pub reads : Reads (lexemes content None tokens) program

-- 6, 10, 5: the content is a text, and its tokens are refused
pub record BreaksSyntax (content : List ℕ) (refusal : Refusal) : Type 0 where
  pub utf8 : IsUtf8 content
  pub tokens : List Token
  pub bad : Option Span
  pub are : AreTokens content tokens bad
  pub fault : syntax.Refusal
  pub cause : IsCause tokens (lexemes content None tokens) bad (length content) fault
  pub is : refusal ≡ told fault
