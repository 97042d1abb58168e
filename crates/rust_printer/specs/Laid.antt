-- Lexemes that say what tokens say, one after another in a text (LANGUAGE.md, "Tokens").
use Rattle.std.specs.Prelude.{◌≡◌, ℕ, ◌≤◌, ◌<◌, List, [], ◌∷◌}
use Rattle.source_grammar.specs.declared.lexeme.Lexeme.{Lexeme}
use Rattle.rust_printer.specs.Tok.{Tok, class_of, content_of}

-- from byte `at` on
pub data Laid : ℕ → List Tok → List Lexeme → Type 0 where
  nothing : {at : ℕ} → Laid at [] []
  next : {at : ℕ} {t : Tok} {ts : List Tok} {l : Lexeme} {ls : List Lexeme} → at ≤ l.span.lo → l.span.lo < l.span.hi →
      l.class ≡ class_of t → l.content ≡ content_of t → Laid l.span.hi ts ls → Laid at (t ∷ ts) (l ∷ ls)
