-- A text is a list of tokens: white space, spelling, and the longest token (TEXT.md, "Tokens").
use Rattle.std.specs.Prelude.{◌≡◌, ℕ, Bool, true, false, ◌||◌, ◌==◌, ◌⊎◌, List, [], ◌∷◌, ◌++◌, chars, encode_utf8_all, IsUtf8}
use Rattle.std.specs.List.{list_all}
use Rattle.std.specs.Char.{is_ascii_digit}
use Rattle.std.specs.Fmt.{signed_decimal}
use Rattle.unicode_normalization.specs.Forms.{nfc}
use Rattle.text_meaning.specs.declared.mark.Mark.{Mark}
use Rattle.text_meaning.specs.declared.mark.Mark.TheVariants as M
use Rattle.text_meaning.specs.Names.{begins, is_word_byte, is_identifier, is_bare}
use Rattle.text_meaning.specs.Tokens.{Token, word, id, number, mark, mark_text}

-- space, tab, line feed and carriage return
abbrev pub is_space : ℕ → Bool
is_space c = ((c == 32) || (c == 9)) || ((c == 10) || (c == 13))

abbrev pub is_gap : List ℕ → Bool
is_gap gap = list_all is_space gap

-- whether a longer mark begins where this one stands before `rest`
abbrev pub goes_on : Mark → List ℕ → Bool
goes_on M.Open rest = begins (λ c. c == 41) rest
goes_on M.Colon rest = begins (λ c. c == 61) rest
goes_on m rest = false

-- a text between the marks « and », with nothing else there
abbrev pub quoted : List ℕ → List ℕ
quoted inner = 194 ∷ 171 ∷ (inner ++ 194 ∷ 187 ∷ [])

-- a name spelled without marks
pub record IsBare (name spelling rest : List ℕ) : Type 0 where
  pub same : spelling ≡ name
  pub bare : is_bare name ≡ true
  pub ends : begins is_word_byte rest ≡ false

-- a name spelled between marks: any identifier whose NFC is the name
pub record IsMarked (name spelling : List ℕ) : Type 0 where
  pub inner : List ℕ
  pub same : spelling ≡ quoted inner
  pub utf8 : IsUtf8 inner
  pub identifier : is_identifier (chars inner) ≡ true
  pub normal : is_identifier (nfc (chars inner)) ≡ true
  pub is_name : name ≡ encode_utf8_all (nfc (chars inner))

-- how a token is spelled before `rest`, no longer token being there
abbrev pub IsToken : Token → List ℕ → List ℕ → Type 0
IsToken (word w) spelling rest = (spelling ≡ w) × (begins is_word_byte rest ≡ false)
IsToken (id name) spelling rest = IsBare name spelling rest ⊎ IsMarked name spelling
IsToken (number z) spelling rest = (spelling ≡ signed_decimal z) × (begins is_ascii_digit rest ≡ false)
IsToken (mark m) spelling rest = (spelling ≡ mark_text m) × (goes_on m rest ≡ false)

-- white space, the token, and a rest of which Rest holds
pub record BeginsWith (t : Token) (Rest : List ℕ → Type 0) (text : List ℕ) : Type 0 where
  pub gap : List ℕ
  pub spelling : List ℕ
  pub rest : List ℕ
  pub space : is_gap gap ≡ true
  pub split : text ≡ gap ++ (spelling ++ rest)
  pub token : IsToken t spelling rest
  pub later : Rest rest

-- the text is these tokens
abbrev pub Lexed : List Token → List ℕ → Type 0
Lexed [] text = is_gap text ≡ true
Lexed (t ∷ ts) text = BeginsWith t (Lexed ts) text
