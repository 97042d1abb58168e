-- A production with what its symbols are spelled as: where each of them is read, so is what the production makes.
use Rattle.std.proofs.Common.{◌≡◌, refl, ap, subst, ℕ, zero, suc, Bool, true, List, [], ◌∷◌, ◌++◌, map, inl, inr}
use Rattle.std.specs.Prelude.{◌&&◌, if◌then◌else◌}
use Rattle.table_reader.specs.declared.symbol.Symbol.{Symbol}
use Rattle.table_reader.specs.declared.symbol.Symbol.TheVariants as S
use Rattle.table_reader.specs.declared.take.Take.TheVariants as K
use Rattle.table_reader.specs.Derivations.{IsOneOf}
use Rattle.table_reader.specs.Reading.{Made, Parts, Reads, ReadsAll, by, nothing, token, part}
use Rattle.text_meaning.specs.Tokens.{Token}
use Rattle.text_tokens.specs.Stands.{Stands, AllStand}
use Rattle.text_tokens.specs.declared.lexeme.Lexeme.{Lexeme as Spelled}
use Rattle.text_table.specs.declared.lexeme.Lexeme.{Lexeme}
use Rattle.text_table.specs.declared.part.Part.{Part}
use Rattle.text_table.specs.declared.terminal.Terminal.{Terminal}
use Rattle.text_table.specs.Lexemes.{takes, has_class}
use Rattle.text_syntax.specs.Among.{and_left, and_right}
use Rattle.text_syntax.specs.Classing.{class_of, lexeme_of}
use Rattle.raw_values.specs.Carriers.{carrier}
use Rattle.raw_ways.specs.Makes.{made}
use Rattle.raw_completeness.specs.Classes.{fits, fitting}

-- ---- lexemes that stand for these tokens, and then these

abbrev pub Begins : List Token → List Spelled → List Spelled → Type 0
Begins [] ls us = ls ≡ us
Begins (t ∷ ts) [] us = ⊥
Begins (t ∷ ts) (l ∷ ls) us = Stands l.kind t × Begins ts ls us

pub record Cut (ts vs : List Token) (ls us : List Spelled) : Type 0 where
  pub middle : List Spelled
  pub first : Begins ts ls middle
  pub later : Begins vs middle us

pub cut : (ts vs : List Token) (ls us : List Spelled) → Begins (ts ++ vs) ls us → Cut ts vs ls us
cut [] vs ls us h = record { middle = ls; first = refl; later = h }
cut (t ∷ ts) vs [] us h = absurd h
cut (t ∷ ts) vs (l ∷ ls) us h = let c = cut ts vs ls us h.1 in record { middle = c.middle; first = (h.0, c.first); later = c.later }

-- all lexemes
pub all_begin : (ts : List Token) (ls : List Spelled) → AllStand ls ts → Begins ts ls []
all_begin [] [] h = refl
all_begin [] (l ∷ ls) h = absurd h
all_begin (t ∷ ts) [] h = absurd h
all_begin (t ∷ ts) (l ∷ ls) h = (h.0, all_begin ts ls h.1)

-- ---- what is read of lexemes

abbrev pub classed : List Spelled → List Lexeme
classed ls = map lexeme_of ls

-- a part is read of the lexemes before these as something of which P holds
pub record Gives (n : Part) (P : carrier n → Type 0) (ls us : List Spelled) : Type 0 where
  pub value : carrier n
  pub reads : Reads takes carrier made n (classed ls) (classed us) value
  pub holds : P value

-- a part is read of all lexemes that stand for these tokens
abbrev pub Reading : (n : Part) → List Token → (carrier n → Type 0) → Type 0
Reading n ts P = (ls us : List Spelled) → Begins ts ls us → Gives n P ls us

-- a token of the grammar takes each lexeme that stands for this token, and P holds of it
abbrev pub Taking : Terminal → Token → (Lexeme → Type 0) → Type 0
Taking t u P = (l : Spelled) → Stands l.kind u → (has_class t (class_of l.kind) ≡ true) × P (lexeme_of l)

-- ---- rows

-- symbols with the tokens that they are spelled as: a token of the grammar; one whose lexeme says something; a part
pub data Row : Type 1 where
  done : Row
  fixed : Terminal → Token → Row → Row
  leaf : Terminal → Token → (Lexeme → Type 0) → Row → Row
  node : (n : Part) → List Token → (carrier n → Type 0) → Row → Row
  -- a part after which nothing comes
  last : (n : Part) → List Token → (carrier n → Type 0) → Row

abbrev pub symbols : Row → List (Symbol Terminal Part)
symbols done = []
symbols (fixed t u r) = S.Token t ∷ symbols r
symbols (leaf t u P r) = S.Token t ∷ symbols r
symbols (node n ts P r) = S.Part n ∷ symbols r
symbols (last n ts P) = S.Part n ∷ []

abbrev pub spelled : Row → List Token
spelled done = []
spelled (fixed t u r) = u ∷ spelled r
spelled (leaf t u P r) = u ∷ spelled r
spelled (node n ts P r) = ts ++ spelled r
spelled (last n ts P) = ts

abbrev pub all_fit : Row → Bool
all_fit done = true
all_fit (fixed t u r) = fits t u && all_fit r
all_fit (leaf t u P r) = all_fit r
all_fit (node n ts P r) = all_fit r
all_fit (last n ts P) = true

-- each leaf is taken, and each part is read
abbrev pub Given : Row → Type 0
Given done = Unit {0}
Given (fixed t u r) = Given r
Given (leaf t u P r) = Taking t u P × Given r
Given (node n ts P r) = Reading n ts P × Given r
Given (last n ts P) = Reading n ts P

abbrev pub Values : Row → Type 0
Values r = Parts Terminal Part Lexeme carrier (symbols r)

-- what holds of the values
abbrev pub Holds : (r : Row) → Values r → Type 0
Holds done vs = Unit {0}
Holds (fixed t u r) vs = Holds r vs.1
Holds (leaf t u P r) vs = P vs.0 × Holds r vs.1
Holds (node n ts P r) vs = P vs.0 × Holds r vs.1
Holds (last n ts P) vs = P vs.0

pub record RowRead (r : Row) (ls us : List Spelled) : Type 0 where
  pub values : Values r
  pub reads : ReadsAll takes carrier made (symbols r) (classed ls) (classed us) values
  pub holds : Holds r values

whole : (t : Terminal) (l : Spelled) → has_class t (class_of l.kind) ≡ true → takes t (lexeme_of l) ≡ K.Whole
whole t l h = ap (λ (b : Bool). if b then K.Whole else K.No) h

pub read_row : (r : Row) → all_fit r ≡ true → Given r → (ls us : List Spelled) → Begins (spelled r) ls us → RowRead r ls us
read_row done f g ls us h =
    record { values = tt; reads = subst (λ (x : List Spelled). ReadsAll takes carrier made [] (classed ls) (classed x) tt) h nothing; holds = tt }
read_row (fixed t u r) f g [] us h = absurd h
read_row (fixed t u r) f g (l ∷ ls) us h =
    let x = read_row r (and_right (fits t u) (all_fit r) f) g ls us h.1 in
    record {
      values = (lexeme_of l, x.values);
      reads = token (whole t l (fitting t u l.kind (and_left (fits t u) (all_fit r) f) h.0)) x.reads;
      holds = x.holds;
    }
read_row (leaf t u P r) f g [] us h = absurd h
read_row (leaf t u P r) f g (l ∷ ls) us h =
    let x = read_row r f g.1 ls us h.1 in
    let y = g.0 l h.0 in
    record { values = (lexeme_of l, x.values); reads = token (whole t l y.0) x.reads; holds = (y.1, x.holds) }
read_row (node n ts P r) f g ls us h =
    let c = cut ts (spelled r) ls us h in
    let y = g.0 ls c.middle c.first in
    let x = read_row r f g.1 c.middle us c.later in
    record { values = (y.value, x.values); reads = part y.reads x.reads; holds = (y.holds, x.holds) }
read_row (last n ts P) f g ls us h =
    let y = g ls us h in
    record { values = (y.value, tt); reads = part y.reads nothing; holds = y.holds }

-- ---- productions

-- the production in this place reads a value of which P holds
abbrev pub Chosen : (n : Part) → List (Made Terminal Part Lexeme carrier n) → ℕ → (carrier n → Type 0) → List Spelled → List Spelled → Type 0
Chosen n [] i P ls us = ⊥
Chosen n (m ∷ ms) zero P ls us =
    (vs : Parts Terminal Part Lexeme carrier m.symbols) × (ReadsAll takes carrier made m.symbols (classed ls) (classed us) vs × P (m.make vs))
Chosen n (m ∷ ms) (suc i) P ls us = Chosen n ms i P ls us

chosen : (n : Part) (ms : List (Made Terminal Part Lexeme carrier n)) (i : ℕ) (P : carrier n → Type 0) (ls us : List Spelled) →
    ((m : Made Terminal Part Lexeme carrier n) → IsOneOf m ms → IsOneOf m (made n)) → Chosen n ms i P ls us → Gives n P ls us
chosen n [] i P ls us f h = absurd h
chosen n (m ∷ ms) zero P ls us f h = record { value = m.make h.0; reads = by m (f m (inl refl)) h.0 h.1.0; holds = h.1.1 }
chosen n (m ∷ ms) (suc i) P ls us f h = chosen n ms i P ls us (λ x o. f x (inr o)) h

-- the production in this place makes something of which P holds, of what is read by a row
abbrev pub Making : (n : Part) → ℕ → (r : Row) → (carrier n → Type 0) → Type 0
Making n i r P =
    (ls us : List Spelled) (vs : Values r) → ReadsAll takes carrier made (symbols r) (classed ls) (classed us) vs → Holds r vs → Chosen n (made n) i P ls us

pub produce : (n : Part) (i : ℕ) (r : Row) (P : carrier n → Type 0) → all_fit r ≡ true → Given r → Making n i r P → Reading n (spelled r) P
produce n i r P f g m = λ ls us h.
    let x = read_row r f g ls us h in
    chosen n (made n) i P ls us (λ m o. o) (m ls us x.values x.reads x.holds)
