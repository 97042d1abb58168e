-- A text cut into lexemes, one after another.
use Rattle.std.specs.Prelude.{◌≡◌, Result, Ok, Err, take, drop, nat_lt, ℕ, zero, suc, ◌+◌, ◌-◌, ◌==◌, ◌&&◌, if◌then◌else◌, List, [], ◌∷◌, ◌++◌, min, length, Option, Some, None, chars, encode_utf8_all}
use Rattle.std.specs.Str.{is_utf8}
use Rattle.std.specs.Char.{is_ascii_digit}
use Rattle.unicode_normalization.specs.Forms.{nfc}
use Rattle.aen_base.specs.declared.memory.NoMem.{NoMem}
use Rattle.aen_base.specs.declared.span.Span.{Span}
use Rattle.text_meaning.specs.declared.mark.Mark.{Mark}
use Rattle.text_meaning.specs.declared.mark.Mark.TheVariants as M
use Rattle.text_meaning.specs.Names.{begins, is_word_start, is_word_byte, is_identifier}
use Rattle.text_meaning.specs.Lexing.{is_space}
use Rattle.text_tokens.specs.declared.lexeme.LexemeKind.{LexemeKind}
use Rattle.text_tokens.specs.declared.lexeme.LexemeKind.TheVariants.{Word, Marked, Number, Punct}
use Rattle.text_tokens.specs.declared.lexeme.Lexeme.{Lexeme}
use Rattle.text_tokens.specs.declared.lexeme.Lexemes.{Lexemes}
use Rattle.text_tokens.specs.Fronts.{front, back, past, begins_two, close_at}

-- a lexeme and the text after it; None where no token begins
abbrev pub Next : Type 0
Next = Option (LexemeKind × List ℕ)

-- the name that is spelled by these characters
unfoldable pub spelled_name : List ℕ → Option (List ℕ)
spelled_name cs = if is_identifier cs && is_identifier (nfc cs) then Some (encode_utf8_all (nfc cs)) else None

-- the name that is spelled between marks
unfoldable pub marked_name : List ℕ → Option (List ℕ)
marked_name inner = if is_utf8 inner then spelled_name (chars inner) else None

abbrev pub name_then : Option (List ℕ) → List ℕ → Next
name_then None rest = None
name_then (Some name) rest = Some (Marked name, rest)

abbrev pub marked_then : List ℕ → Option ℕ → Next
marked_then cs None = None
marked_then cs (Some n) = name_then (marked_name (take n cs)) (drop (n + 2) cs)

-- after `«`
unfoldable pub marked_at : List ℕ → Next
marked_at cs = marked_then cs (close_at cs)

-- the punctuation that is this byte alone
abbrev pub mark_of : ℕ → Option Mark
mark_of c =
    if c == 41 then Some M.Close
    else (if c == 123 then Some M.OpenBrace
    else (if c == 125 then Some M.CloseBrace
    else (if c == 44 then Some M.Comma
    else (if c == 59 then Some M.Semicolon
    else (if c == 46 then Some M.Dot
    else (if c == 35 then Some M.Hash
    else (if c == 124 then Some M.Bar
    else (if c == 43 then Some M.Plus
    else None))))))))

abbrev pub mark_then : Option Mark → List ℕ → Next
mark_then None rest = None
mark_then (Some m) rest = Some (Punct m, rest)

abbrev pub arrow_at : List ℕ → Next
arrow_at cs =
    if begins_two 134 146 cs then Some (Punct M.To, past (past cs))
    else (if begins_two 134 144 cs then Some (Punct M.From, past (past cs)) else None)

-- two bytes of punctuation where the second follows
abbrev pub either : ℕ → Mark → Option Mark → List ℕ → Next
either second both alone cs = if begins (λ d. d == second) cs then Some (Punct both, past cs) else mark_then alone cs

unfoldable pub mark_at : ℕ → List ℕ → Next
mark_at c cs =
    if c == 40 then either 41 M.Unit (Some M.Open) cs
    else (if c == 58 then either 61 M.Becomes (Some M.Colon) cs
    else (if c == 61 then either 62 M.Gives None cs
    else (if c == 195 then either 151 M.Times None cs
    else (if c == 226 then arrow_at cs
    else mark_then (mark_of c) cs))))

abbrev pub negative_at : List ℕ → Next
negative_at cs = if begins is_ascii_digit cs then Some (Number (45 ∷ front is_ascii_digit cs), back is_ascii_digit cs) else None

unfoldable pub other_at : ℕ → List ℕ → Next
other_at c cs =
    if c == 45 then negative_at cs
    else (if c == 194 then (if begins (λ d. d == 171) cs then marked_at (past cs) else None)
    else mark_at c cs)

unfoldable pub lexeme_at : ℕ → List ℕ → Next
lexeme_at c cs =
    if is_word_start c then Some (Word (front is_word_byte (c ∷ cs)), back is_word_byte (c ∷ cs))
    else (if is_ascii_digit c then Some (Number (front is_ascii_digit (c ∷ cs)), back is_ascii_digit (c ∷ cs))
    else other_at c cs)

abbrev pub span : ℕ → ℕ → Span
span lo hi = record { lo = lo; hi = hi }

abbrev pub lexeme : LexemeKind → ℕ → ℕ → Lexeme
lexeme kind lo hi = record { kind = kind; span = span lo hi }

abbrev pub prepend : List Lexeme → Lexemes → Lexemes
prepend ls c = record { list = ls ++ c.list; fault = c.fault }

abbrev pub whole : Lexemes
whole = record { list = []; fault = None }

-- how many bytes a character takes that begins with this one
abbrev pub width : ℕ → ℕ
width c = if nat_lt c 128 then 1 else (if nat_lt c 224 then 2 else (if nat_lt c 240 then 3 else 4))

abbrev pub faulty : ℕ → ℕ → Lexemes
faulty lo hi = record { list = []; fault = Some (span lo hi) }

-- `left` bytes of `end` are left
abbrev pub cut_then : ℕ → ℕ → ℕ → Next → (List ℕ → Lexemes) → Lexemes
cut_then end left c None rest = faulty (end - left) (end - left + min (width c) left)
cut_then end left c (Some p) rest = prepend (lexeme p.0 (end - left) (end - length p.1) ∷ []) (rest p.1)

-- the rest of a text of `end` bytes, without white space before it, in so many turns
unfoldable pub cut : ℕ → ℕ → List ℕ → Lexemes
cut end zero cs = whole
cut end (suc n) [] = whole
cut end (suc n) (c ∷ cs) =
    cut_then end (length (c ∷ cs)) c (lexeme_at c cs) (λ rest. cut end n (back is_space rest))

-- the whole text
unfoldable pub cut_text : List ℕ → Lexemes
cut_text text = cut (length text) (length text) (back is_space text)

-- a search for a lexeme is answered; want of memory is free
abbrev pub Finds : Next → Result (Option LexemeKind) NoMem → List ℕ → Type 0
Finds o (Err e) rest = Unit {0}
Finds o (Ok None) rest = o ≡ None
Finds o (Ok (Some k)) rest = o ≡ Some (k, rest)

-- the same where no memory is taken
abbrev pub Sees : Next → Option LexemeKind → List ℕ → Type 0
Sees o None rest = o ≡ None
Sees o (Some k) rest = o ≡ Some (k, rest)
