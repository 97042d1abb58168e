-- A part of the grammar is read of the lexemes of its tokens, before others.
use Rattle.std.proofs.Common.{◌≡◌, refl, sym, ap, subst, ◌∙◌, ℕ, ◌<◌, Bool, true, false, List, ◌∷◌, if◌then◌else◌, arith}
use denote.Enum.Bare.{sameb}
use Rattle.table_reader.specs.declared.symbol.Symbol.{Symbol}
use Rattle.table_reader.specs.declared.symbol.Symbol.TheVariants as S
use Rattle.table_reader.specs.declared.take.Take.{Take}
use Rattle.table_reader.specs.declared.take.Take.TheVariants as K
use Rattle.table_reader.specs.Derivations.{IsOneOf}
use Rattle.table_reader.specs.Reading as R
use Rattle.source_grammar.specs.Lexemes.{takes, has_class, end_of_types, parted}
use Rattle.source_grammar.specs.declared.class.Class.{Class}
use Rattle.source_grammar.specs.declared.class.Class.TheVariants as C
use Rattle.source_grammar.specs.declared.lexeme.Lexeme.{Lexeme}
use Rattle.source_grammar.specs.declared.terminal.Terminal.{Terminal}
use Rattle.source_grammar.specs.declared.terminal.Terminal.TheVariants as T
use Rattle.source_grammar.specs.contracts.terminal.Terminal.{the_type}
use Rattle.source_grammar.specs.declared.part.Part.{Part}
use Rattle.source_ways.specs.Carriers.{Carrier, Carried, Values}
use Rattle.source_ways.specs.Reading.{made}
use Rattle.rust_printer.specs.Tok.{Tok, mark, class_of, content_of}
use Rattle.rust_printer.specs.Laid.{Laid}
use Rattle.rust_printer.specs.Laid as L

abbrev pub Made : Part → Type 0
Made n = R.Made Terminal Part Lexeme Carrier n

abbrev pub ReadsAll : (p : List (Symbol Terminal Part)) → List Lexeme → List Lexeme → Values p → Type 0
ReadsAll p ls us vs = R.ReadsAll takes Carrier made p ls us vs

-- a part is read of these lexemes as something of which this holds, and what is left is the lexemes of these tokens
pub record Read (n : Part) (holds : Carried n → Type 0) (more : List Tok) (ls : List Lexeme) : Type 0 where
  pub at : ℕ
  pub rest : List Lexeme
  pub value : Carrier n
  pub reads : R.Reads takes Carrier made n ls rest value
  pub is : holds value.value
  pub left : Laid at more rest

pub read_by : {n : Part} {holds : Carried n → Type 0} {more : List Tok} {ls : List Lexeme} {at : ℕ} (m : Made n) → IsOneOf m (made n) → (vs : Values m.symbols) (us : List Lexeme) →
    ReadsAll m.symbols ls us vs → holds (m.make vs).value → Laid at more us → Read n holds more ls
read_by {at} m one vs us r h left = record { at = at; rest = us; value = m.make vs; reads = R.by m one vs r; is = h; left = left }

whole_if : (a b : Bool) (x : Take Lexeme) → a ≡ true → b ≡ false → (if a then (if b then x else K.Whole) else K.No) ≡ K.Whole
whole_if true false x p q = refl
whole_if true true x p q = cc
whole_if false b x p q = cc

-- a token of the grammar takes a lexeme of this class
pub taken : (t : Terminal) (l : Lexeme) (c : Class) → l.class ≡ c → has_class t c ≡ true → sameb the_type t T.TypesEnd ≡ false → takes t l ≡ K.Whole
taken t l c e h n = whole_if (has_class t l.class) (sameb the_type t T.TypesEnd) (end_of_types l) (ap (has_class t) e ∙ h) n

whole_then : (a : Bool) (x : Take Lexeme) → a ≡ true → x ≡ K.Whole → (if a then x else K.No) ≡ K.Whole
whole_then true x p q = q
whole_then false x p q = cc

pub taken_end : (l : Lexeme) → l.class ≡ C.Greater → takes T.TypesEnd l ≡ K.Whole
taken_end l e = whole_then (has_class T.TypesEnd l.class) (end_of_types l) (ap (has_class T.TypesEnd) e) (ap (λ c. parted c l.span) e)

-- the lexeme of a token, and the lexemes after it
pub record Off (t : Tok) (ts : List Tok) (ls : List Lexeme) : Type 0 where
  pub lexeme : Lexeme
  pub rest : List Lexeme
  pub same : ls ≡ lexeme ∷ rest
  pub class : lexeme.class ≡ class_of t
  pub content : lexeme.content ≡ content_of t
  pub at : ℕ
  pub left : Laid at ts rest

pub off : {t : Tok} {ts : List Tok} {ls : List Lexeme} {at : ℕ} → Laid at (t ∷ ts) ls → Off t ts ls
off (L.next {l} {ls} a b c d r) = record { lexeme = l; rest = ls; same = refl; class = c; content = d; at = l.span.hi; left = r }

-- of two tokens, of which the second begins later
pub record Offs (t u : Tok) (ts : List Tok) (ls : List Lexeme) : Type 0 where
  pub first : Off t (u ∷ ts) ls
  pub second : Off u ts first.rest
  pub less : first.lexeme.span.lo < second.lexeme.span.lo

pub offs : {t u : Tok} {ts : List Tok} {ls : List Lexeme} {at : ℕ} → Laid at (t ∷ u ∷ ts) ls → Offs t u ts ls
offs (L.next {l} a b c d (L.next {l = k} {ls} a2 b2 c2 d2 r)) = record {
  first = record { lexeme = l; rest = k ∷ ls; same = refl; class = c; content = d; at = l.span.hi; left = L.next a2 b2 c2 d2 r };
  second = record { lexeme = k; rest = ls; same = refl; class = c2; content = d2; at = k.span.hi; left = r };
  less = omega (arith, b, a2);
}

-- a token of the grammar stands for it
pub tok : {t : Tok} {ts : List Tok} {ls us : List Lexeme} {p : List (Symbol Terminal Part)} {vs : Values p} (o : Off t ts ls) (x : Terminal) →
    has_class x (class_of t) ≡ true → sameb the_type x T.TypesEnd ≡ false → ReadsAll p o.rest us vs → ReadsAll (S.Token x ∷ p) ls us (o.lexeme, vs)
tok {t} {us} {p} {vs} o x h n r =
    subst (λ ls. ReadsAll (S.Token x ∷ p) ls us (o.lexeme, vs)) (sym o.same) (R.token (taken x o.lexeme (class_of t) o.class h n) r)

-- the end of a list of types
pub tok_end : {ts : List Tok} {ls us : List Lexeme} {p : List (Symbol Terminal Part)} {vs : Values p} (o : Off (mark C.Greater) ts ls) →
    ReadsAll p o.rest us vs → ReadsAll (S.Token T.TypesEnd ∷ p) ls us (o.lexeme, vs)
tok_end {us} {p} {vs} o r =
    subst (λ ls. ReadsAll (S.Token T.TypesEnd ∷ p) ls us (o.lexeme, vs)) (sym o.same) (R.token (taken_end o.lexeme o.class) r)
