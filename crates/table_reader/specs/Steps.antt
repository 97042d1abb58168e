-- How the next lexeme chooses a production, and the symbols that are to come after it.
use Rattle.std.specs.Prelude.{ℕ, zero, suc, Bool, true, false, ◌&&◌, if◌then◌else◌, List, [], ◌∷◌, ◌++◌, Option, Some, None}
use Rattle.std.specs.Option.{option_map}
use Rattle.table_reader.specs.declared.symbol.Symbol.{Symbol}
use Rattle.table_reader.specs.declared.symbol.Symbol.TheVariants as S
use Rattle.table_reader.specs.declared.take.Take.{Take}
use Rattle.table_reader.specs.declared.take.Take.TheVariants as K

-- whether one of these is empty
abbrev pub has_empty : {A : Type 0} → List (List A) → Bool
has_empty [] = false
has_empty ([] ∷ ps) = true
has_empty ((s ∷ p) ∷ ps) = has_empty ps

-- a turn: no production goes on with the lexeme; it is taken, and these symbols are to come; its front is taken,
-- these symbols are to come, and this is left of it
pub data Turn (T N L : Type 0) : Type 0 where
  refused : Turn T N L
  taken : List (Symbol T N) → Turn T N L
  left : List (Symbol T N) → L → Turn T N L

-- by a token, before these symbols
abbrev pub turned : {T N L : Type 0} → Take L → List (Symbol T N) → Turn T N L
turned K.No rest = refused
turned K.Whole rest = taken rest
turned (K.Front piece r) rest = left rest r

-- with more symbols to come after it; where it is refused, another turn
abbrev pub before : {T N L : Type 0} → List (Symbol T N) → Turn T N L → Turn T N L → Turn T N L
before q refused other = other
before q (taken p) other = taken (p ++ q)
before q (left p r) other = left (p ++ q) r

-- where it is refused, another turn
abbrev pub either : {T N L : Type 0} → Turn T N L → Turn T N L → Turn T N L
either refused other = other
either (taken p) other = taken p
either (left p r) other = left p r

abbrev pub one_more : Option ℕ → Option ℕ
one_more o = option_map (λ k. suc k) o

module _ {T N L : Type 0} (takes : T → L → Take L) (productions : N → List (List (Symbol T N))) (rank : ℕ) (weight : L → ℕ) where
  -- the first production that goes on with this lexeme, through leading parts of so much less rank
  abbrev pub chosen : ℕ → List (List (Symbol T N)) → L → Turn T N L
  chosen d [] l = refused
  chosen d ([] ∷ ps) l = chosen d ps l
  chosen d ((S.Token t ∷ p) ∷ ps) l = either (turned (takes t l) p) (chosen d ps l)
  chosen zero ((S.Part n ∷ p) ∷ ps) l = chosen zero ps l
  chosen (suc d) ((S.Part n ∷ p) ∷ ps) l = before p (chosen d (productions n) l) (chosen (suc d) ps l)

  -- of the first symbol, or where it may be empty of the next ones
  abbrev pub turn : List (Symbol T N) → L → Turn T N L
  turn [] l = refused
  turn (S.Token t ∷ rest) l = turned (takes t l) rest
  turn (S.Part n ∷ rest) l = before rest (chosen rank (productions n) l) (if has_empty (productions n) then turn rest l else refused)

  -- turns until the lexeme is taken
  abbrev pub after_turn : Turn T N L → (List (Symbol T N) → L → Option (List (Symbol T N))) → Option (List (Symbol T N))
  after_turn refused again = None
  after_turn (taken next) again = Some next
  after_turn (left next r) again = again next r

  abbrev pub turns : ℕ → List (Symbol T N) → L → Option (List (Symbol T N))
  turns zero symbols l = None
  turns (suc k) symbols l = after_turn (turn symbols l) (λ next r. turns k next r)

  -- the symbols that are to come after this lexeme; None where it can't stand here
  abbrev pub step : List (Symbol T N) → L → Option (List (Symbol T N))
  step symbols l = turns (suc (weight l)) symbols l

  -- whether nothing more has to come
  abbrev pub may_end : List (Symbol T N) → Bool
  may_end [] = true
  may_end (S.Token t ∷ rest) = false
  may_end (S.Part n ∷ rest) = has_empty (productions n) && may_end rest

  -- none where there is no next step, else one more than what it gives
  abbrev pub fault_after : Option (List (Symbol T N)) → (List (Symbol T N) → Option ℕ) → Option ℕ
  fault_after None again = Some 0
  fault_after (Some next) again = one_more (again next)

  -- the place of the first lexeme that can't stand where it stands, or the end where more has to come
  abbrev pub fault_from : List (Symbol T N) → List L → Option ℕ
  fault_from symbols [] = if may_end symbols then None else Some 0
  fault_from symbols (l ∷ ls) = fault_after (step symbols l) (λ next. fault_from next ls)
