-- A text cut into lexemes, each the longest that begins where it stands, up to the first character at which none begins
-- (TEXT.md, "Tokens").
use Rattle.std.specs.Prelude.{◌≡◌, ℕ, ◌+◌, true, false, List, [], ◌∷◌, ◌++◌, min, length, Option, Some, None}
use Rattle.std.specs.Char.{is_ascii_digit}
use Rattle.aen_base.specs.declared.span.Span.{Span}
use Rattle.text_meaning.specs.Names.{begins, is_word_byte, IsName}
use Rattle.text_meaning.specs.Tokens.{mark_text}
use Rattle.text_meaning.specs.Lexing.{IsMarked, is_space, is_gap, goes_on}
use Rattle.text_tokens.specs.declared.lexeme.LexemeKind.{LexemeKind}
use Rattle.text_tokens.specs.declared.lexeme.LexemeKind.TheVariants.{Word, Marked, Number, Punct}
use Rattle.text_tokens.specs.declared.lexeme.Lexeme.{Lexeme}
use Rattle.text_tokens.specs.Scan.{span, lexeme, width}
use Rattle.text_tokens.specs.Stands.{is_plain, is_numeral}

-- how a lexeme is spelled before `rest`, no longer lexeme being there
abbrev pub IsSpelled : LexemeKind → List ℕ → List ℕ → Type 0
IsSpelled (Word w) spelling rest = (is_plain w ≡ true) × (spelling ≡ w) × (begins is_word_byte rest ≡ false)
IsSpelled (Marked name) spelling rest = IsMarked name spelling
IsSpelled (Number digits) spelling rest = (is_numeral digits ≡ true) × (spelling ≡ digits) × (begins is_ascii_digit rest ≡ false)
IsSpelled (Punct m) spelling rest = (spelling ≡ mark_text m) × (goes_on m rest ≡ false)

-- no lexeme begins here
abbrev pub NoLexeme : List ℕ → Type 0
NoLexeme text = (kind : LexemeKind) (spelling rest : List ℕ) → text ≡ spelling ++ rest → IsSpelled kind spelling rest → ⊥

-- from byte `at` on the text is these lexemes, with white space between them, up to its end or to this fault: the first
-- character at which no lexeme begins, as many bytes as its first one says
pub data Lexes : ℕ → List ℕ → List Lexeme → Option Span → Type 0 where
  ends : {at : ℕ} {text : List ℕ} → is_gap text ≡ true → Lexes at text [] None
  next : {at : ℕ} {text : List ℕ} {ls : List Lexeme} {bad : Option Span} (gap spelling rest : List ℕ) (kind : LexemeKind) →
      text ≡ gap ++ (spelling ++ rest) → is_gap gap ≡ true → IsSpelled kind spelling rest →
      Lexes (at + length gap + length spelling) rest ls bad →
      Lexes at text (lexeme kind (at + length gap) (at + length gap + length spelling) ∷ ls) bad
  stray : {at : ℕ} {text : List ℕ} (gap : List ℕ) (c : ℕ) (rest : List ℕ) →
      text ≡ gap ++ (c ∷ rest) → is_gap gap ≡ true → is_space c ≡ false → NoLexeme (c ∷ rest) →
      Lexes at text [] (Some (span (at + length gap) (at + length gap + min (width c) (length (c ∷ rest)))))

-- the lexemes of a whole text and its first fault
abbrev pub IsLexed : List ℕ → List Lexeme → Option Span → Type 0
IsLexed text ls bad = Lexes 0 text ls bad

-- no other lexemes and no other fault are the text's
abbrev pub NoOthers : List ℕ → List Lexeme → Option Span → Type 0
NoOthers text ls bad = (ms : List Lexeme) (other : Option Span) → IsLexed text ms other → (ms ≡ ls) × (other ≡ bad)

-- what stands between marks is a name
abbrev pub BearsName : LexemeKind → Type 0
BearsName (Word w) = Unit {0}
BearsName (Marked name) = IsName name
BearsName (Number digits) = Unit {0}
BearsName (Punct m) = Unit {0}
