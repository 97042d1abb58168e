-- How lexemes are read on two stacks, the newest first: of what is to come, and of values.
use Rattle.std.specs.Prelude.{◌≡◌, ℕ, zero, suc, ◌<◌, Bool, true, false, if◌then◌else◌, List, [], ◌∷◌, ◌++◌, map, Option, Some, None}
use Rattle.std.specs.List.{list_any}
use Rattle.table_reader.specs.declared.coming.Coming.{Coming}
use Rattle.table_reader.specs.declared.coming.Coming.TheVariants as C
use Rattle.table_reader.specs.declared.item.Item.{Item}
use Rattle.table_reader.specs.declared.item.Item.TheVariants as I
use Rattle.table_reader.specs.declared.symbol.Symbol.{Symbol}
use Rattle.table_reader.specs.declared.symbol.Symbol.TheVariants as S
use Rattle.table_reader.specs.declared.take.Take.{Take}
use Rattle.table_reader.specs.declared.take.Take.TheVariants as K
use Rattle.table_reader.specs.declared.turned.Turned.{Turned}
use Rattle.table_reader.specs.declared.turned.Turned.TheVariants as W
use Rattle.table_reader.specs.Derivations.{IsOneOf}
use Rattle.table_reader.specs.Conditions.{accepts, heads}
use Rattle.table_reader.specs.Steps.{one_more, refused, chosen, step}
use Rattle.table_reader.specs.Reading.{Made}
use Rattle.table_reader.specs.Building.{MakesBy}

abbrev pub coming : {T N : Type 0} → Symbol T N → Coming T N
coming (S.Token t) = C.Token t
coming (S.Part n) = C.Part n

-- what is to come without the marks of productions that are over
abbrev pub symbols : {T N : Type 0} → List (Coming T N) → List (Symbol T N)
symbols [] = []
symbols (C.Token t ∷ rest) = S.Token t ∷ symbols rest
symbols (C.Part n ∷ rest) = S.Part n ∷ symbols rest
symbols (C.Over n i ∷ rest) = symbols rest

-- an item stands in this place of a list
abbrev pub IsAt : {A : Type 0} → A → ℕ → List A → Type 0
IsAt x i [] = ⊥
IsAt x zero (y ∷ ys) = x ≡ y
IsAt x (suc i) (y ∷ ys) = IsAt x i ys

-- the place of the first item that passes a test
abbrev pub first_place : {A : Type 0} → (A → Bool) → List A → Option ℕ
first_place test [] = None
first_place test (x ∷ xs) = if test x then Some 0 else one_more (first_place test xs)

abbrev pub is_empty : {A : Type 0} → List A → Bool
is_empty [] = true
is_empty (x ∷ xs) = false

-- symbols that are to come somewhere in lexemes of a part
pub data IsReached {T N : Type 0} (productions : N → List (List (Symbol T N))) : List (Symbol T N) → Type 0 where
  start : (n : N) → IsReached productions (S.Part n ∷ [])
  token : {t : T} {rest : List (Symbol T N)} → IsReached productions (S.Token t ∷ rest) → IsReached productions rest
  part : {n : N} {rest : List (Symbol T N)} (p : List (Symbol T N)) → IsOneOf p (productions n) → IsReached productions (S.Part n ∷ rest) → IsReached productions (p ++ rest)

-- whether a lexeme is taken by a token that these productions begin with
abbrev pub begins : {T N L : Type 0} → (T → L → Take L) → (N → List (List (Symbol T N))) → ℕ → List (List (Symbol T N)) → L → Bool
begins takes productions d ps l = list_any (λ t. accepts (takes t l)) (heads productions d ps)

-- the place of the production of a part that begins with a lexeme
abbrev pub begun : {T N L : Type 0} → (T → L → Take L) → (N → List (List (Symbol T N))) → ℕ → N → L → Option ℕ
begun takes productions rank n l = first_place (λ p. begins takes productions rank (p ∷ []) l) (productions n)

-- this place and then the way, where there is one; else another way
abbrev pub through : ℕ → Option (List ℕ) → Option (List ℕ) → Option (List ℕ)
through i None other = other
through i (Some ways) other = Some (i ∷ ways)

-- the way down to the token that takes a lexeme, through leading parts of so much less rank: the place of the
-- production that goes on with the lexeme, then its place in the part that this one begins with, and so on; the
-- first of these productions stands in place i
abbrev pub way : {T N L : Type 0} → (T → L → Take L) → (N → List (List (Symbol T N))) → ℕ → ℕ → List (List (Symbol T N)) → L → Option (List ℕ)
way takes productions d i [] l = None
way takes productions d i ([] ∷ ps) l = way takes productions d (suc i) ps l
way takes productions d i ((S.Token t ∷ p) ∷ ps) l = through i (if accepts (takes t l) then Some [] else None) (way takes productions d (suc i) ps l)
way takes productions zero i ((S.Part n ∷ p) ∷ ps) l = way takes productions zero (suc i) ps l
way takes productions (suc d) i ((S.Part n ∷ p) ∷ ps) l = through i (way takes productions d 0 (productions n) l) (way takes productions (suc d) (suc i) ps l)

-- the way after the place of a production
abbrev pub way_by : {T N L : Type 0} → (T → L → Take L) → (N → List (List (Symbol T N))) → ℕ → List (Symbol T N) → L → Option (List ℕ)
way_by takes productions d [] l = None
way_by takes productions d (S.Token t ∷ p) l = if accepts (takes t l) then Some [] else None
way_by takes productions zero (S.Part n ∷ p) l = None
way_by takes productions (suc d) (S.Part n ∷ p) l = way takes productions d 0 (productions n) l

-- a way, if there is one, comes before what stood there
abbrev pub Finds : Option (List ℕ) → Bool → List ℕ → List ℕ → Type 0
Finds None true old new = ⊥
Finds None false old new = new ≡ old
Finds (Some ways) true old new = new ≡ ways ++ old
Finds (Some ways) false old new = ⊥

-- a production that is not empty stands in this place
pub record HasFirst {T N : Type 0} (productions : N → List (List (Symbol T N))) (n : N) (i : ℕ) : Type 0 where
  pub first : Symbol T N
  pub rest : List (Symbol T N)
  pub at : IsAt (first ∷ rest) i (productions n)

-- the place of the empty production of a part
abbrev pub empty_place : {T N : Type 0} → (N → List (List (Symbol T N))) → N → Option ℕ
empty_place productions n = first_place is_empty (productions n)

-- a part is left out by its empty production, if it has one
abbrev pub Skips : Option ℕ → Bool → (ℕ → Type 0) → Type 0
Skips None true By = ⊥
Skips None false By = Unit {0}
Skips (Some i) true By = By i
Skips (Some i) false By = ⊥

-- a token takes a lexeme or its front, which is the newest value then, or refuses it
abbrev pub TakesToken : {L V : Type 0} → Take L → L → List (Item L V) → Turned L → List (Item L V) → Type 0
TakesToken K.No l values turned new = turned ≡ W.Refused
TakesToken K.Whole l values turned new = (turned ≡ W.Taken) × (new ≡ I.Token l ∷ values)
TakesToken (K.Front front rest) l values turned new = (turned ≡ W.Left rest) × (new ≡ I.Token front ∷ values)

module _ {T N L V : Type 0} (carrier : N → Type 0) (made : (n : N) → List (Made T N L carrier n)) (held : (n : N) → carrier n → V) where
  -- with these values, whatever is read of what is to come, each production that is over has the values of its
  -- symbols on top of the stack, and in the end one value stands alone
  abbrev pub IsReady : List (Coming T N) → List (Item L V) → Type 0
  IsReady [] values = (value : V) × (values ≡ I.Part value ∷ [])
  IsReady (C.Token t ∷ rest) values = (l : L) → IsReady rest (I.Token l ∷ values)
  IsReady (C.Part n ∷ rest) values = (v : carrier n) → IsReady rest (I.Part (held n v) ∷ values)
  IsReady (C.Over n i ∷ rest) values = (value : V) × ((below : List (Item L V)) × (MakesBy carrier held n (made n) i values value below × IsReady rest (I.Part value ∷ below)))

module _ {T N L V : Type 0} (takes : T → L → Take L) (carrier : N → Type 0) (made : (n : N) → List (Made T N L carrier n)) (held : (n : N) → carrier n → V) where
  -- with this to come and these values, lexemes lead to these values in the end
  pub data Leads : List (Coming T N) → List (Item L V) → List L → List (Item L V) → Type 0 where
    over : {values : List (Item L V)} → Leads [] values [] values
    token : {t : T} {l : L} {rest : List (Coming T N)} {values last : List (Item L V)} {ls : List L} →
        takes t l ≡ K.Whole → Leads rest (I.Token l ∷ values) ls last → Leads (C.Token t ∷ rest) values (l ∷ ls) last
    piece : {t : T} {l : L} {rest : List (Coming T N)} {values last : List (Item L V)} {ls : List L} (taken left : L) →
        takes t l ≡ K.Front taken left → Leads rest (I.Token taken ∷ values) (left ∷ ls) last → Leads (C.Token t ∷ rest) values (l ∷ ls) last
    part : {n : N} {rest : List (Coming T N)} {values last : List (Item L V)} {ls : List L} (m : Made T N L carrier n) (i : ℕ) →
        IsAt m i (made n) → Leads (map coming m.symbols ++ C.Over n i ∷ rest) values ls last → Leads (C.Part n ∷ rest) values ls last
    made_of : {n : N} {i : ℕ} {rest : List (Coming T N)} {values last : List (Item L V)} {ls : List L} (value : V) (below : List (Item L V)) →
        MakesBy carrier held n (made n) i values value below → Leads rest (I.Part value ∷ below) ls last → Leads (C.Over n i ∷ rest) values ls last

  -- where lexemes lead to one value in the end, this is the value
  abbrev pub Ends : List (Coming T N) → List (Item L V) → List L → V → Type 0
  Ends to_come values ls it = (value : V) → Leads to_come values ls (I.Part value ∷ []) → it ≡ value

  -- what is to come was reached, what was ready is, and where a lexeme and others led, what is left of it and the
  -- others lead from here
  pub record Follows (productions : N → List (List (Symbol T N))) (from : List (Coming T N)) (values : List (Item L V)) (l : L) (to : List (Coming T N)) (new : List (Item L V)) (left : List L) : Type 0 where
    pub reached : IsReached productions (symbols to)
    pub ready : IsReady carrier made held from values → IsReady carrier made held to new
    pub leads : (ls : List L) (last : List (Item L V)) → Leads from values (l ∷ ls) last → Leads to new (left ++ ls) last

  module _ (productions : N → List (List (Symbol T N))) (rank : ℕ) (weight : L → ℕ) where
    -- the step from these symbols by a lexeme is the one that goes on with what is left of it
    abbrev pub GoesOn : List (Symbol T N) → L → List (Symbol T N) → List L → Type 0
    GoesOn from l to [] = step takes productions rank weight from l ≡ Some to
    GoesOn from l to (k ∷ ks) = step takes productions rank weight from l ≡ step takes productions rank weight to k

    -- the same on both stacks
    pub record Moves (from : List (Coming T N)) (values : List (Item L V)) (l : L) (to : List (Coming T N)) (new : List (Item L V)) (left : List L) : Type 0 where
      pub follows : Follows productions from values l to new left
      pub steps : GoesOn (symbols from) l (symbols to) left

    -- a lexeme was taken, or can't stand here
    abbrev pub Takes : List (Coming T N) → List (Item L V) → L → Bool → List (Coming T N) → List (Item L V) → Type 0
    Takes from values l true to new = Moves from values l to new []
    Takes from values l false to new = step takes productions rank weight (symbols from) l ≡ None

    -- the same, or its front was taken, and what is left is lighter
    abbrev pub Turns : List (Coming T N) → List (Item L V) → L → Turned L → List (Coming T N) → List (Item L V) → Type 0
    Turns from values l W.Refused to new = step takes productions rank weight (symbols from) l ≡ None
    Turns from values l W.Taken to new = Moves from values l to new []
    Turns from values l (W.Left r) to new = Moves from values l to new (r ∷ []) × (weight r < weight l)

    -- a part was opened down to a token; or no production of it goes on with the lexeme, and all is as before
    abbrev pub Enters : N → L → Option T → List (Coming T N) → List (Coming T N) → Type 0
    Enters n l None old new = ((begun takes productions rank n l ≡ None) × (chosen takes productions rank weight rank (productions n) l ≡ refused)) × (new ≡ old)
    Enters n l (Some t) old new = (values : List (Item L V)) → Moves (C.Part n ∷ old) values l (C.Token t ∷ new) values (l ∷ [])
