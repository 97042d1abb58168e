-- The class of a lexeme (TEXT.md, "Tokens", "Words", "Names").
use Rattle.std.specs.Prelude.{ℕ, Bool, true, false, ◌&&◌, ◌||◌, ◌==◌, if◌then◌else◌, List, [], ◌∷◌, Option, Some, None, codes, bytes_eq}
use Rattle.text_meaning.specs.declared.mark.Mark.{Mark}
use Rattle.text_meaning.specs.declared.mark.Mark.TheVariants as M
use Rattle.text_meaning.specs.Names.{is_bare, is_variable, are_digits}
use Rattle.text_tokens.specs.declared.lexeme.LexemeKind.{LexemeKind}
use Rattle.text_tokens.specs.declared.lexeme.LexemeKind.TheVariants.{Word, Marked, Number, Punct}
use Rattle.text_tokens.specs.declared.lexeme.Lexeme.{Lexeme as Spelled}
use Rattle.text_table.specs.declared.class.Class.{Class}
use Rattle.text_table.specs.declared.class.Class.TheVariants as C
use Rattle.text_table.specs.declared.lexeme.Lexeme.{Lexeme}
use Rattle.text_table.specs.Spelled.{class_named}

-- a word with a number directly after it
abbrev pub is_numbered : List ℕ → List ℕ → Bool
is_numbered [] w = are_digits w
is_numbered (c ∷ prefix) [] = false
is_numbered (c ∷ prefix) (d ∷ w) = (d == c) && is_numbered prefix w

-- of an id without a class of its own
abbrev pub class_of_name : List ℕ → Class
class_of_name w = if is_numbered (codes "loop") w then C.LoopNumber else (if is_numbered (codes "back") w then C.BackNumber else C.Other)

-- of a word without a class of its own
abbrev pub class_of_other : List ℕ → Class
class_of_other w = if is_bare w then class_of_name w else (if is_variable w then C.Variable else C.Excluded)

abbrev pub own_or_other : Option Class → List ℕ → Class
own_or_other None w = class_of_other w
own_or_other (Some c) w = c

abbrev pub class_of_word : List ℕ → Class
class_of_word w = own_or_other (class_named w) w

abbrev pub class_of_number : List ℕ → Class
class_of_number s = if bytes_eq s (codes "0") then C.Zero else (if bytes_eq s (codes "1") then C.One else C.Digits)

abbrev pub class_of_mark : Mark → Class
class_of_mark M.Open = C.OpenBracket
class_of_mark M.Close = C.CloseBracket
class_of_mark M.Unit = C.UnitValue
class_of_mark M.OpenBrace = C.OpenBrace
class_of_mark M.CloseBrace = C.CloseBrace
class_of_mark M.Colon = C.Colon
class_of_mark M.Becomes = C.Becomes
class_of_mark M.Comma = C.Comma
class_of_mark M.Semicolon = C.Semicolon
class_of_mark M.Dot = C.Dot
class_of_mark M.Hash = C.Hash
class_of_mark M.Bar = C.Bar
class_of_mark M.Gives = C.Gives
class_of_mark M.Plus = C.Plus
class_of_mark M.To = C.To
class_of_mark M.From = C.From
class_of_mark M.Times = C.Times

abbrev pub class_of : LexemeKind → Class
class_of (Word w) = class_of_word w
class_of (Marked n) = C.Other
class_of (Number s) = class_of_number s
class_of (Punct m) = class_of_mark m

-- words of the language that are no names
abbrev pub is_keyword : Class → Bool
is_keyword C.Import = true
is_keyword C.AenPrelude = true
is_keyword C.Open = true
is_keyword C.Inductive = true
is_keyword C.Structure = true
is_keyword C.Type = true
is_keyword C.Where = true
is_keyword C.Def = true
is_keyword C.Fuel = true
is_keyword C.Nat = true
is_keyword C.Result = true
is_keyword C.Match = true
is_keyword C.With = true
is_keyword C.OutOfFuel = true
is_keyword C.Do = true
is_keyword C.Let = true
is_keyword C.True = true
is_keyword C.False = true
is_keyword C.Ok = true
is_keyword C.Fail = true
is_keyword C.Brk = true
is_keyword C.Ret = true
is_keyword C.Bool = true
is_keyword C.Unit = true
is_keyword C.Exit = true
is_keyword C.Fn = true
is_keyword c = false

-- names of integer types
abbrev pub is_int : Class → Bool
is_int C.U8 = true
is_int C.U16 = true
is_int C.U32 = true
is_int C.U64 = true
is_int C.U128 = true
is_int C.Usize = true
is_int C.I8 = true
is_int C.I16 = true
is_int C.I32 = true
is_int C.I64 = true
is_int C.I128 = true
is_int C.Isize = true
is_int c = false

-- the class tells the word, and no token of the grammar takes it for its text
abbrev pub is_fixed : Class → Bool
is_fixed c = is_keyword c || is_int c

-- what a word of this class says beside its class
unfoldable pub said : Class → List ℕ → List ℕ
said c w = if is_fixed c then [] else w

-- what a lexeme of this class says beside its class
abbrev pub text_in : Class → LexemeKind → List ℕ
text_in c (Word w) = said c w
text_in c (Marked n) = n
text_in c (Number s) = s
text_in c (Punct m) = []

abbrev pub text_of : LexemeKind → List ℕ
text_of k = text_in (class_of k) k

-- a lexeme with its class
abbrev pub lexeme_of : Spelled → Lexeme
lexeme_of l = record { class = class_of l.kind; span = l.span; text = text_of l.kind }
