-- What a lexeme is that a token of the grammar takes: its word, its mark, an id, digits (TEXT.md, "Tokens", "Names").
use Rattle.std.specs.Prelude.{◌≡◌, refl, ℕ, Bool, true, false, not, ◌&&◌, ◌||◌, if◌then◌else◌, List, [], ◌∷◌, Option, Some, None, is_some, codes, bytes_eq, pos}
use Rattle.std.specs.Fmt.{digits}
use Rattle.std.specs.List.{list_all}
use Rattle.std.proofs.Common.{ap, sym, ◌∙◌, subst}
use Rattle.text_meaning.specs.declared.mark.Mark.{Mark}
use Rattle.text_meaning.specs.declared.mark.Mark.TheVariants as M
use Rattle.text_meaning.specs.Names.{is_bare, is_variable}
use Rattle.text_meaning.specs.Tokens.{word, id, number, mark}
use Rattle.text_tokens.specs.Stands.{Stands}
use Rattle.text_tokens.specs.declared.lexeme.LexemeKind.{LexemeKind}
use Rattle.text_tokens.specs.declared.lexeme.LexemeKind.TheVariants.{Word, Marked, Number, Punct}
use Rattle.text_table.specs.declared.class.Class.{Class}
use Rattle.text_table.specs.declared.class.Class.TheVariants as C
use Rattle.text_table.specs.declared.terminal.Terminal.{Terminal}
use Rattle.text_table.specs.declared.terminal.Terminal.TheVariants as T
use Rattle.text_table.specs.Classes.{classes, spelling, names}
use Rattle.text_table.specs.Lexemes.{has_class}
use Rattle.text_table.specs.Spelled.{class_among, class_named}
use Rattle.text_syntax.specs.Among.{is_one_of, each_one, none_of, only_class, implied, and_right}
use Rattle.text_syntax.specs.Classing.{class_of, class_of_word, class_of_other, class_of_number, class_of_mark, own_or_other, is_numbered, is_fixed, said, text_of}
use Rattle.text_syntax.specs.Kinds.{among, other_classes, other_class, excluded, same_bytes}

-- ---- words

-- a class of one word
abbrev pub is_name : Class → Bool
is_name c = is_one_of c names

spelled_by : (o : Option Class) (w : List ℕ) → class_among w names ≡ o → is_name (own_or_other o w) ≡ true → w ≡ spelling (own_or_other o w)
spelled_by (Some d) w e h = (among w names d e).0
spelled_by None w e h = absurd (none_of is_name other_classes (class_of_other w) refl (other_class w) h)

-- a lexeme of the class of a word is this word
pub is_word : (k : LexemeKind) → is_name (class_of k) ≡ true → k ≡ Word (spelling (class_of k))
is_word (Word w) h = ap (λ (x : List ℕ). Word x) (spelled_by (class_named w) w refl h)
is_word (Marked n) h = absurd (excluded is_name (Marked n) refl h)
is_word (Number s) h = absurd (excluded is_name (Number s) refl h)
is_word (Punct m) h = absurd (excluded is_name (Punct m) refl h)

-- what a token takes whose classes are of words
pub token_word : (t : Terminal) (k : LexemeKind) → list_all is_name (classes t) ≡ true → has_class t (class_of k) ≡ true → k ≡ Word (spelling (class_of k))
token_word t k a h = is_word k (each_one is_name (classes t) (class_of k) a h)

stands_itself : (k : LexemeKind) (w : List ℕ) → k ≡ Word w → Stands k (word w)
stands_itself k w e = subst (λ (x : LexemeKind). Stands x (word w)) (sym e) refl

pub word_stands : (t : Terminal) (k : LexemeKind) → list_all is_name (classes t) ≡ true → has_class t (class_of k) ≡ true → Stands k (word (spelling (class_of k)))
word_stands t k a h = stands_itself k (spelling (class_of k)) (token_word t k a h)

-- what a token takes that has one class
pub one_word_stands : (c : Class) (k : LexemeKind) → is_name c ≡ true → is_one_of (class_of k) (c ∷ []) ≡ true → Stands k (word (spelling c))
one_word_stands c k a h =
    let e = only_class (class_of k) c h in
    subst (λ (x : Class). Stands k (word (spelling x))) e (stands_itself k (spelling (class_of k)) (is_word k (ap is_name e ∙ a)))

-- ---- words with a number

-- a word says itself whose class does not tell it
said_by : (b : Bool) (w : List ℕ) → not b ≡ true → (if b then [] else w) ≡ w
said_by true w h = absurd cc
said_by false w h = refl

abbrev is_said : Class → Bool
is_said c = not (is_fixed c)

all_said : (c : Class) (w : List ℕ) → is_said c ≡ true → said c w ≡ w
unfolding said
all_said c w h = said_by (is_fixed c) w h

-- so does each word that a token takes none of whose classes tells its word
pub token_said : (t : Terminal) (c : Class) (w : List ℕ) → list_all (λ d. not (is_fixed d)) (classes t) ≡ true → has_class t c ≡ true → said c w ≡ w
token_said t c w a h = all_said c w (each_one is_said (classes t) c a h)

-- a class that words alone have, and that does not tell the word
abbrev pub is_of_words : Class → Bool
is_of_words c = (is_name c || is_one_of c (C.LoopNumber ∷ C.BackNumber ∷ C.Variable ∷ C.Excluded ∷ [])) && is_said c

some_word : (k : LexemeKind) → is_of_words (class_of k) ≡ true → k ≡ Word (text_of k)
some_word (Word w) h =
    let c : Class = class_of_word w in
    let s : is_said c ≡ true = and_right (is_name c || is_one_of c (C.LoopNumber ∷ C.BackNumber ∷ C.Variable ∷ C.Excluded ∷ [])) (is_said c) h in
    ap (λ (x : List ℕ). Word x) (sym (all_said c w s))
some_word (Marked n) h = absurd (excluded is_of_words (Marked n) refl h)
some_word (Number s) h = absurd (excluded is_of_words (Number s) refl h)
some_word (Punct m) h = absurd (excluded is_of_words (Punct m) refl h)

-- what a token takes that is taken by words alone
pub token_some_word : (t : Terminal) (k : LexemeKind) → list_all is_of_words (classes t) ≡ true → has_class t (class_of k) ≡ true → k ≡ Word (text_of k)
token_some_word t k a h = some_word k (each_one is_of_words (classes t) (class_of k) a h)

-- ---- ids

-- a token's classes with a word are those of bare words
abbrev bare_if_named : Class → Bool
bare_if_named c = not (has_class T.Name c) || is_bare (spelling c)

names_are_bare : list_all bare_if_named names ≡ true
names_are_bare = refl

name_of_other : (a b c d : Bool) →
    has_class T.Name (if a then (if b then C.LoopNumber else (if c then C.BackNumber else C.Other)) else (if d then C.Variable else C.Excluded)) ≡ true → a ≡ true
name_of_other true b c d h = refl
name_of_other false b c true h = absurd cc
name_of_other false b c false h = absurd cc

name_by : (o : Option Class) (w : List ℕ) → class_among w names ≡ o → has_class T.Name (own_or_other o w) ≡ true → is_bare w ≡ true
name_by (Some d) w e h =
    let r = among w names d e in
    subst (λ (x : List ℕ). is_bare x ≡ true) (sym r.0) (implied (has_class T.Name d) (is_bare (spelling d)) (each_one bare_if_named names d names_are_bare r.1) h)
name_by None w e h = name_of_other (is_bare w) (is_numbered (codes "loop") w) (is_numbered (codes "back") w) (is_variable w) h

-- what `Name` takes is an id of its text
pub is_id : (k : LexemeKind) → has_class T.Name (class_of k) ≡ true → Stands k (id (text_of k))
is_id (Word w) h = (token_said T.Name (class_of_word w) w refl h, name_by (class_named w) w refl h)
is_id (Marked n) h = refl
is_id (Number s) h = absurd (excluded (has_class T.Name) (Number s) refl h)
is_id (Punct m) h = absurd (excluded (has_class T.Name) (Punct m) refl h)

-- ---- numbers

-- what `Number` takes are digits
pub is_digits : (k : LexemeKind) → has_class T.Number (class_of k) ≡ true → k ≡ Number (text_of k)
is_digits (Word w) h = absurd (excluded (has_class T.Number) (Word w) refl h)
is_digits (Marked n) h = absurd (excluded (has_class T.Number) (Marked n) refl h)
is_digits (Number s) h = refl
is_digits (Punct m) h = absurd (excluded (has_class T.Number) (Punct m) refl h)

zero_by : (a b : Bool) (s : List ℕ) → bytes_eq s (codes "0") ≡ a → has_class T.Zero (if a then C.Zero else (if b then C.One else C.Digits)) ≡ true → s ≡ codes "0"
zero_by true b s e h = same_bytes s (codes "0") e
zero_by false true s e h = absurd cc
zero_by false false s e h = absurd cc

one_by : (a b : Bool) (s : List ℕ) → bytes_eq s (codes "1") ≡ b → has_class T.One (if a then C.Zero else (if b then C.One else C.Digits)) ≡ true → s ≡ codes "1"
one_by true b s e h = absurd cc
one_by false true s e h = same_bytes s (codes "1") e
one_by false false s e h = absurd cc

-- what `0` and `1` take are these numbers
pub zero_stands : (k : LexemeKind) → has_class T.Zero (class_of k) ≡ true → Stands k (number (pos 0))
unfolding digits
zero_stands (Word w) h = absurd (excluded (has_class T.Zero) (Word w) refl h)
zero_stands (Marked n) h = absurd (excluded (has_class T.Zero) (Marked n) refl h)
zero_stands (Number s) h = zero_by (bytes_eq s (codes "0")) (bytes_eq s (codes "1")) s refl h
zero_stands (Punct m) h = absurd (excluded (has_class T.Zero) (Punct m) refl h)

pub one_stands : (k : LexemeKind) → has_class T.One (class_of k) ≡ true → Stands k (number (pos 1))
unfolding digits
one_stands (Word w) h = absurd (excluded (has_class T.One) (Word w) refl h)
one_stands (Marked n) h = absurd (excluded (has_class T.One) (Marked n) refl h)
one_stands (Number s) h = one_by (bytes_eq s (codes "0")) (bytes_eq s (codes "1")) s refl h
one_stands (Punct m) h = absurd (excluded (has_class T.One) (Punct m) refl h)

-- ---- marks

-- the mark of a class
abbrev pub mark_of : Class → Option Mark
mark_of C.OpenBracket = Some M.Open
mark_of C.CloseBracket = Some M.Close
mark_of C.UnitValue = Some M.Unit
mark_of C.OpenBrace = Some M.OpenBrace
mark_of C.CloseBrace = Some M.CloseBrace
mark_of C.Colon = Some M.Colon
mark_of C.Becomes = Some M.Becomes
mark_of C.Comma = Some M.Comma
mark_of C.Semicolon = Some M.Semicolon
mark_of C.Dot = Some M.Dot
mark_of C.Hash = Some M.Hash
mark_of C.Bar = Some M.Bar
mark_of C.Gives = Some M.Gives
mark_of C.Plus = Some M.Plus
mark_of C.To = Some M.To
mark_of C.From = Some M.From
mark_of C.Times = Some M.Times
mark_of c = None

same_mark : (m : Mark) → mark_of (class_of_mark m) ≡ Some m
same_mark M.Open = refl
same_mark M.Close = refl
same_mark M.Unit = refl
same_mark M.OpenBrace = refl
same_mark M.CloseBrace = refl
same_mark M.Colon = refl
same_mark M.Becomes = refl
same_mark M.Comma = refl
same_mark M.Semicolon = refl
same_mark M.Dot = refl
same_mark M.Hash = refl
same_mark M.Bar = refl
same_mark M.Gives = refl
same_mark M.Plus = refl
same_mark M.To = refl
same_mark M.From = refl
same_mark M.Times = refl

abbrev has_mark : Class → Bool
has_mark c = is_some (mark_of c)

mark_there : (c : Class) (m : Mark) → mark_of c ≡ Some m → has_mark c ≡ true
mark_there c m h = ap is_some h

mark_by : (m n : Mark) → mark_of (class_of_mark m) ≡ Some n → n ≡ m
mark_by m n h = let e : Some n ≡ Some m = sym h ∙ same_mark m in cc

-- a lexeme of the class of a mark is this mark
pub is_mark : (k : LexemeKind) (m : Mark) → mark_of (class_of k) ≡ Some m → Stands k (mark m)
is_mark (Word w) m h = absurd (excluded has_mark (Word w) refl (mark_there (class_of_word w) m h))
is_mark (Marked n) m h = absurd cc
is_mark (Number s) m h = absurd (excluded has_mark (Number s) refl (mark_there (class_of_number s) m h))
is_mark (Punct k) m h = mark_by k m h

-- what a token takes that is a mark
pub mark_stands : (m : Mark) (k : LexemeKind) → is_one_of (class_of k) (class_of_mark m ∷ []) ≡ true → Stands k (mark m)
mark_stands m k h = is_mark k m (ap mark_of (only_class (class_of k) (class_of_mark m) h) ∙ same_mark m)
