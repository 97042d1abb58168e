-- What a lexeme stands for: the same bare word may be a word of the language or a name (TEXT.md, "Tokens").
use Rattle.std.specs.Prelude.{◌≡◌, ◌↔◌, ℕ, Bool, true, false, if◌then◌else◌, ◌&&◌, ◌==◌, List, [], ◌∷◌}
use Rattle.std.specs.List.{list_all}
use Rattle.std.specs.Fmt.{signed_decimal}
use Rattle.text_meaning.specs.Names.{begins, is_word_start, is_word_byte, is_bare, are_digits}
use Rattle.text_meaning.specs.Tokens.{Token, word, id, number, mark}
use Rattle.text_meaning.specs.Lexing.{Lexed}
use Rattle.text_meaning.specs.Lists.{Each}
use Rattle.text_tokens.specs.declared.lexeme.LexemeKind.{LexemeKind}
use Rattle.text_tokens.specs.declared.lexeme.LexemeKind.TheVariants.{Word, Marked, Number, Punct}
use Rattle.text_tokens.specs.declared.lexeme.Lexeme.{Lexeme}

abbrev pub Stands : LexemeKind → Token → Type 0
Stands (Word w) (word v) = v ≡ w
Stands (Word w) (id n) = (n ≡ w) × (is_bare w ≡ true)
Stands (Word w) (number z) = ⊥
Stands (Word w) (mark m) = ⊥
Stands (Marked n) (word v) = ⊥
Stands (Marked n) (id k) = k ≡ n
Stands (Marked n) (number z) = ⊥
Stands (Marked n) (mark m) = ⊥
Stands (Number s) (word v) = ⊥
Stands (Number s) (id n) = ⊥
Stands (Number s) (number z) = s ≡ signed_decimal z
Stands (Number s) (mark m) = ⊥
Stands (Punct m) (word v) = ⊥
Stands (Punct m) (id n) = ⊥
Stands (Punct m) (number z) = ⊥
Stands (Punct m) (mark k) = k ≡ m

-- each lexeme stands for its token, and there are as many
abbrev pub AllStand : List Lexeme → List Token → Type 0
AllStand [] [] = Unit {0}
AllStand [] (t ∷ ts) = ⊥
AllStand (l ∷ ls) [] = ⊥
AllStand (l ∷ ls) (t ∷ ts) = Stands l.kind t × AllStand ls ts

-- a word of ASCII letters, digits and `_`
abbrev pub is_plain : List ℕ → Bool
is_plain w = begins is_word_start w && list_all is_word_byte w

-- digits, perhaps with `-` before them
abbrev pub is_numeral : List ℕ → Bool
is_numeral [] = false
is_numeral (c ∷ cs) = if c == 45 then are_digits cs else are_digits (c ∷ cs)

-- a token whose spelling has the form of its kind
abbrev pub IsProper : Token → Type 0
IsProper (word w) = is_plain w ≡ true
IsProper (id n) = Unit {0}
IsProper (number z) = is_numeral (signed_decimal z) ≡ true
IsProper (mark m) = Unit {0}

-- the tokens of a text are those that its lexemes stand for
abbrev pub AreLexemes : List Lexeme → List ℕ → Type 0
AreLexemes lexemes text = (ts : List Token) → Each IsProper ts → Lexed ts text ↔ AllStand lexemes ts

-- the text has no tokens
abbrev pub HasNoTokens : List ℕ → Type 0
HasNoTokens text = (ts : List Token) → Each IsProper ts → Lexed ts text → ⊥
