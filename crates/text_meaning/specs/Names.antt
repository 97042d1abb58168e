-- Names: identifiers in NFC, and those that are spelled without marks (TEXT.md, "Names").
use Rattle.std.specs.Prelude.{◌≡◌, ℕ, Bool, true, false, not, ◌&&◌, ◌||◌, ◌==◌, List, [], ◌∷◌, bytes_eq, chars, IsUtf8}
use Rattle.std.specs.List.{list_all, list_any}
use Rattle.std.specs.Char.{is_ascii_digit, is_ascii_alphabetic}
use Rattle.unicode_ident.specs.Ident.{is_xid_start, is_xid_continue}
use Rattle.unicode_normalization.specs.Forms.{nfc}
use Rattle.text_meaning.specs.Words.{heading_words, code_words, part_words, int_words}

-- whether a text begins with a byte that passes the test
abbrev pub begins : (ℕ → Bool) → List ℕ → Bool
begins test [] = false
begins test (c ∷ rest) = test c

-- ASCII letters, digits and `_`
abbrev pub is_word_start : ℕ → Bool
is_word_start c = is_ascii_alphabetic c || (c == 95)

abbrev pub is_word_byte : ℕ → Bool
is_word_byte c = is_word_start c || is_ascii_digit c

abbrev pub starts_identifier : ℕ → Bool
starts_identifier c = is_xid_start c || (c == 95)

-- an identifier as a list of characters; `_` alone is none
abbrev pub is_identifier : List ℕ → Bool
is_identifier cs = (begins starts_identifier cs && list_all is_xid_continue cs) && not (bytes_eq cs (95 ∷ []))

-- a name: an identifier that is its own NFC
pub record IsName (name : List ℕ) : Type 0 where
  pub utf8 : IsUtf8 name
  pub identifier : is_identifier (chars name) ≡ true
  pub normal : nfc (chars name) ≡ chars name

abbrev pub is_reserved : List ℕ → Bool
is_reserved w = list_any (bytes_eq w) heading_words || (list_any (bytes_eq w) code_words || (list_any (bytes_eq w) part_words || list_any (bytes_eq w) int_words))

-- one digit or more
abbrev pub are_digits : List ℕ → Bool
are_digits [] = false
are_digits (c ∷ rest) = list_all is_ascii_digit (c ∷ rest)

-- `v` with digits
abbrev pub is_variable : List ℕ → Bool
is_variable [] = false
is_variable (c ∷ rest) = (c == 118) && are_digits rest

-- what is spelled without marks: ASCII letters, digits and `_`, no word, and no `v` with digits
abbrev pub is_bare : List ℕ → Bool
is_bare w = ((begins is_word_start w && list_all is_word_byte w) && not (bytes_eq w (95 ∷ []))) && (not (is_reserved w) && not (is_variable w))
