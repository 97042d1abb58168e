-- The classes that lexemes of a kind can have (TEXT.md, "Tokens").
use Rattle.std.specs.Prelude.{◌≡◌, refl, ℕ, Bool, true, false, not, if◌then◌else◌, List, [], ◌∷◌, ◌++◌, Option, Some, None, codes, bytes_eq}
use Rattle.std.specs.List.{list_all}
use Rattle.std.specs.Cmp.Lexicographic.{bytes_decides}
use Rattle.std.proofs.Common.{sym, subst}
use Rattle.text_meaning.specs.declared.mark.Mark.{Mark}
use Rattle.text_meaning.specs.declared.mark.Mark.TheVariants as M
use Rattle.text_meaning.specs.Names.{is_bare, is_variable}
use Rattle.text_tokens.specs.declared.lexeme.LexemeKind.{LexemeKind}
use Rattle.text_tokens.specs.declared.lexeme.LexemeKind.TheVariants.{Word, Marked, Number, Punct}
use Rattle.text_table.specs.declared.class.Class.{Class}
use Rattle.text_table.specs.declared.class.Class.TheVariants as C
use Rattle.text_table.specs.Classes.{spelling, names}
use Rattle.text_table.specs.Spelled.{class_among, class_named}
use Rattle.text_syntax.specs.Among.{is_one_of, none_of, here, later, behind}
use Rattle.text_syntax.specs.Classing.{class_of, class_of_other, class_of_mark, own_or_other, is_numbered}

-- of words without a class of their own
abbrev pub other_classes : List Class
other_classes = C.Other ∷ C.LoopNumber ∷ C.BackNumber ∷ C.Variable ∷ C.Excluded ∷ []

abbrev pub number_classes : List Class
number_classes = C.Zero ∷ C.One ∷ C.Digits ∷ []

abbrev pub mark_classes : List Class
mark_classes = C.OpenBracket ∷ C.CloseBracket ∷ C.UnitValue ∷ C.OpenBrace ∷ C.CloseBrace ∷ C.Colon ∷ C.Becomes ∷ C.Comma ∷ C.Semicolon
    ∷ C.Dot ∷ C.Hash ∷ C.Bar ∷ C.Gives ∷ C.Plus ∷ C.To ∷ C.From ∷ C.Times ∷ []

abbrev pub kind_classes : LexemeKind → List Class
kind_classes (Word w) = other_classes ++ names
kind_classes (Marked n) = C.Other ∷ []
kind_classes (Number s) = number_classes
kind_classes (Punct m) = mark_classes

pub same_bytes : (a b : List ℕ) → bytes_eq a b ≡ true → a ≡ b
same_bytes a b h = (bytes_decides a b).0 h

among_by : (b : Bool) (w : List ℕ) (c d : Class) (cs : List Class) → bytes_eq w (spelling c) ≡ b →
    (class_among w cs ≡ Some d → (w ≡ spelling d) × (is_one_of d cs ≡ true)) →
    (if b then Some c else class_among w cs) ≡ Some d → (w ≡ spelling d) × (is_one_of d (c ∷ cs) ≡ true)
among_by true w c d cs e more h =
    let s : c ≡ d = cc in (subst (λ (x : Class). w ≡ spelling x) s (same_bytes w (spelling c) e), here d c cs (sym s))
among_by false w c d cs e more h = let r = more h in (r.0, later d c cs r.1)

-- a word's own class has its spelling
pub among : (w : List ℕ) (cs : List Class) (d : Class) → class_among w cs ≡ Some d → (w ≡ spelling d) × (is_one_of d cs ≡ true)
among w [] d h = absurd cc
among w (c ∷ cs) d h = among_by (bytes_eq w (spelling c)) w c d cs refl (λ g. among w cs d g) h

abbrev class_by : Bool → Bool → Bool → Bool → Class
class_by a b c d = if a then (if b then C.LoopNumber else (if c then C.BackNumber else C.Other)) else (if d then C.Variable else C.Excluded)

other_by : (a b c d : Bool) → is_one_of (class_by a b c d) other_classes ≡ true
other_by true true c d = refl
other_by true false true d = refl
other_by true false false d = refl
other_by false b c true = refl
other_by false b c false = refl

-- a word without a class of its own
pub other_class : (w : List ℕ) → is_one_of (class_of_other w) other_classes ≡ true
other_class w = other_by (is_bare w) (is_numbered (codes "loop") w) (is_numbered (codes "back") w) (is_variable w)

word_by : (a b c d : Bool) → is_one_of (class_by a b c d) (other_classes ++ names) ≡ true
word_by true true c d = refl
word_by true false true d = refl
word_by true false false d = refl
word_by false b c true = refl
word_by false b c false = refl

own_by : (o : Option Class) (w : List ℕ) → class_among w names ≡ o → is_one_of (own_or_other o w) (other_classes ++ names) ≡ true
own_by (Some d) w e = behind d other_classes names (among w names d e).1
own_by None w e = word_by (is_bare w) (is_numbered (codes "loop") w) (is_numbered (codes "back") w) (is_variable w)

number_by : (a b : Bool) → is_one_of (if a then C.Zero else (if b then C.One else C.Digits)) number_classes ≡ true
number_by true b = refl
number_by false true = refl
number_by false false = refl

mark_class : (m : Mark) → is_one_of (class_of_mark m) mark_classes ≡ true
mark_class M.Open = refl
mark_class M.Close = refl
mark_class M.Unit = refl
mark_class M.OpenBrace = refl
mark_class M.CloseBrace = refl
mark_class M.Colon = refl
mark_class M.Becomes = refl
mark_class M.Comma = refl
mark_class M.Semicolon = refl
mark_class M.Dot = refl
mark_class M.Hash = refl
mark_class M.Bar = refl
mark_class M.Gives = refl
mark_class M.Plus = refl
mark_class M.To = refl
mark_class M.From = refl
mark_class M.Times = refl

pub kind_class : (k : LexemeKind) → is_one_of (class_of k) (kind_classes k) ≡ true
kind_class (Word w) = own_by (class_named w) w refl
kind_class (Marked n) = refl
kind_class (Number s) = number_by (bytes_eq s (codes "0")) (bytes_eq s (codes "1"))
kind_class (Punct m) = mark_class m

-- no lexeme of this kind passes a test that none of its classes passes
pub excluded : (test : Class → Bool) (k : LexemeKind) → list_all (λ c. not (test c)) (kind_classes k) ≡ true → test (class_of k) ≡ true → ⊥
excluded test k a h = none_of test (kind_classes k) (class_of k) a (kind_class k) h
