-- What comes after each part is among the tokens that may come there, after each step.
use Rattle.std.proofs.Common.{◌≡◌, refl, sym, ap, subst, ℕ, zero, suc, inl, inr, Bool, true, false, List, [], ◌∷◌, ◌++◌, append_assoc, Option, Some}
use Rattle.std.specs.Prelude.{if◌then◌else◌, ◌&&◌, ◌||◌}
use Rattle.std.specs.List.{list_all, list_any}
use Rattle.table_reader.specs.declared.symbol.Symbol.{Symbol}
use Rattle.table_reader.specs.declared.symbol.Symbol.TheVariants as S
use Rattle.table_reader.specs.declared.take.Take.{Take}
use Rattle.table_reader.specs.declared.take.Take.TheVariants as K
use Rattle.table_reader.specs.Steps.{has_empty, Turn, refused, taken, left, turned, before, either, one_more}
use Rattle.table_reader.specs.Steps as Steps
use Rattle.table_reader.specs.Derivations as D
use Rattle.table_reader.specs.Derivations.{IsOneOf, nothing, token, piece, part}
use Rattle.table_reader.specs.Conditions as C
use Rattle.table_reader.specs.Conditions.{accepts, single}
use Rattle.table_reader.proofs.Sound as Sound
use Rattle.table_reader.proofs.Sound.{both}
use Rattle.table_reader.proofs.Heads as Heads
use Rattle.table_reader.proofs.Heads.{of_left, of_right, of_append, left_of, right_of, and_both, not_true, all_of}

module _ {T N L : Type 0} (takes : T → L → Take L) (productions : N → List (List (Symbol T N))) (rank : ℕ) (weight : L → ℕ)
    (fits : C.Fits takes productions rank weight) where
  abbrev Symbols : Type 0
  Symbols = List (Symbol T N)

  abbrev Derives : Symbols → List L → Type 0
  Derives s ls = D.Derives takes productions s ls

  abbrev After : Turn T N L → Symbols → List L → Type 0
  After t rest ls = Sound.After takes productions rank weight t rest ls

  abbrev Then : Turn T N L → List L → Type 0
  Then t ls = Sound.Then takes productions rank weight t ls

  abbrev chosen : ℕ → List Symbols → L → Turn T N L
  chosen d ps l = Steps.chosen takes productions rank weight d ps l

  abbrev turn : Symbols → L → Turn T N L
  turn s l = Steps.turn takes productions rank weight s l

  abbrev turns : ℕ → Symbols → L → Option Symbols
  turns k s l = Steps.turns takes productions rank weight k s l

  abbrev heads : ℕ → List Symbols → List T
  heads d ps = C.heads productions d ps

  abbrev firsts : Symbols → List T → List T
  firsts p after = C.firsts productions rank fits.follow fits.apart fits.same p after

  abbrev firm : ℕ → List Symbols → Bool
  firm d ps = C.firm productions d ps

  abbrev sits : Symbols → List T → Bool
  sits p after = C.sits productions rank fits.follow fits.apart fits.same p after

  abbrev among : List T → List T → Bool
  among ts us = C.among productions rank fits.follow fits.apart fits.same ts us

  abbrev all_apart : List T → Bool
  all_apart ts = C.all_apart productions rank fits.follow fits.apart fits.same ts

  abbrev each_apart : List T → List T → Bool
  each_apart ts us = C.each_apart productions rank fits.follow fits.apart fits.same ts us

  -- what comes after each part is among the tokens that may come there
  abbrev pub Within : List T → List T → Type 0
  Within ts us = (t : T) → IsOneOf t ts → IsOneOf t us

  abbrev pub Sits : Symbols → Type 0
  Sits [] = Unit {0}
  Sits (S.Token t ∷ rest) = Sits rest
  Sits (S.Part n ∷ rest) = Within (firsts rest []) (fits.follow n) × Sits rest

  pub or_by : (b : Bool) (t u : T) (us : List T) → fits.same t u ≡ b → (list_any (fits.same t) us ≡ true → IsOneOf t us) → b || list_any (fits.same t) us ≡ true → IsOneOf t (u ∷ us)
  or_by true t u us e f h = inl (fits.same_right t u e)
  or_by false t u us e f h = inr (f h)

  pub any_of : (t : T) (us : List T) → list_any (fits.same t) us ≡ true → IsOneOf t us
  any_of t [] h = absurd cc
  any_of t (u ∷ us) h = or_by (fits.same t u) t u us refl (any_of t us) h

  pub among_within : (ts us : List T) → among ts us ≡ true → Within ts us
  among_within ts us h t i = any_of t us (all_of (λ t. list_any (fits.same t) us) ts t h i)

  pub firsts_append : (p s : Symbols) → firsts (p ++ s) [] ≡ firsts p (firsts s [])
  firsts_append [] s = refl
  firsts_append (S.Token t ∷ p) s = refl
  firsts_append (S.Part n ∷ p) s = ap (λ (r : List T). heads rank (productions n) ++ (if has_empty (productions n) then r else [])) (firsts_append p s)

  pub tail_by : (b : Bool) (hs f g : List T) → Within f g → Within (hs ++ (if b then f else [])) (hs ++ (if b then g else []))
  tail_by true hs f g w t i = elim (of_append t hs f i) [ inl a ↦ of_left t hs g a | inr c ↦ of_right t hs g (w t c) ]
  tail_by false hs f g w t i = i

  pub firsts_within : (p : Symbols) (f g : List T) → Within f g → Within (firsts p f) (firsts p g)
  firsts_within [] f g w = w
  firsts_within (S.Token t ∷ p) f g w = λ u i. i
  firsts_within (S.Part n ∷ p) f g w = tail_by (has_empty (productions n)) (heads rank (productions n)) (firsts p f) (firsts p g) (firsts_within p f g w)

  pub before_within : (p s : Symbols) (f g : List T) → Within (firsts s []) f → Within (firsts p f) g → Within (firsts (p ++ s) []) g
  before_within p s f g w v t i = v t (firsts_within p (firsts s []) f w t (subst (IsOneOf t) (firsts_append p s) i))

  pub sits_append : (p s : Symbols) (f : List T) → sits p f ≡ true → Within (firsts s []) f → Sits s → Sits (p ++ s)
  sits_append [] s f h w i = i
  sits_append (S.Token t ∷ p) s f h w i = sits_append p s f h w i
  sits_append (S.Part n ∷ p) s f h w i = (
    before_within p s f (fits.follow n) w (among_within (firsts p f) (fits.follow n) (left_of (among (firsts p f) (fits.follow n)) (sits p f) h)),
    sits_append p s f (right_of (among (firsts p f) (fits.follow n)) (sits p f) h) w i,
  )

  abbrev pub SitsAfter : Turn T N L → Symbols → Type 0
  SitsAfter refused rest = Unit {0}
  SitsAfter (taken p) rest = Sits (p ++ rest)
  SitsAfter (left p r) rest = Sits (p ++ rest)

  pub take_sits : (k : Take L) (p : Symbols) (other : Turn T N L) (rest : Symbols) → Sits (p ++ rest) → SitsAfter other rest → SitsAfter (either (turned k p) other) rest
  take_sits K.No p other rest h g = g
  take_sits K.Whole p other rest h g = h
  take_sits (K.Front half r) p other rest h g = h

  pub lead_sits : (c : Turn T N L) (p : Symbols) (other : Turn T N L) (rest : Symbols) → SitsAfter c (p ++ rest) → SitsAfter other rest → SitsAfter (before p c other) rest
  lead_sits refused p other rest h g = g
  lead_sits (taken q) p other rest h g = subst Sits (sym (append_assoc q p rest)) h
  lead_sits (left q r) p other rest h g = subst Sits (sym (append_assoc q p rest)) h

  pub chosen_sits : (d : ℕ) (ps : List Symbols) (f : List T) (l : L) (rest : Symbols) → list_all (λ p. sits p f) ps ≡ true → Within (firsts rest []) f → Sits rest → SitsAfter (chosen d ps l) rest
  chosen_sits d [] f l rest h w i = tt
  chosen_sits d ([] ∷ ps) f l rest h w i = chosen_sits d ps f l rest h w i
  chosen_sits d ((S.Token t ∷ p) ∷ ps) f l rest h w i =
      take_sits (takes t l) p (chosen d ps l) rest (sits_append p rest f (left_of (sits p f) _ h) w i) (chosen_sits d ps f l rest (right_of (sits p f) _ h) w i)
  chosen_sits zero ((S.Part n ∷ p) ∷ ps) f l rest h w i = chosen_sits zero ps f l rest (right_of (among (firsts p f) (fits.follow n) && sits p f) _ h) w i
  chosen_sits (suc d) ((S.Part n ∷ p) ∷ ps) f l rest h w i =
      let g = left_of (among (firsts p f) (fits.follow n) && sits p f) _ h in
      lead_sits (chosen d (productions n) l) p (chosen (suc d) ps l) rest
      (chosen_sits d (productions n) (fits.follow n) l (p ++ rest) ((Heads.sits_part takes productions rank weight fits) n)
      (before_within p rest f (fits.follow n) w (among_within (firsts p f) (fits.follow n) (left_of (among (firsts p f) (fits.follow n)) (sits p f) g)))
      (sits_append p rest f (right_of (among (firsts p f) (fits.follow n)) (sits p f) g) w i))
      (chosen_sits (suc d) ps f l rest (right_of (among (firsts p f) (fits.follow n) && sits p f) _ h) w i)

  abbrev pub SitsThen : Turn T N L → Type 0
  SitsThen refused = Unit {0}
  SitsThen (taken p) = Sits p
  SitsThen (left p r) = Sits p

  pub token_sits : (k : Take L) (rest : Symbols) → Sits rest → SitsThen (turned {T = T} {N = N} {L = L} k rest)
  token_sits K.No rest h = tt
  token_sits K.Whole rest h = h
  token_sits (K.Front half r) rest h = h

  pub part_sits : (c : Turn T N L) (b : Bool) (rest : Symbols) (l : L) → SitsAfter c rest → SitsThen (turn rest l) → SitsThen (before rest c (if b then turn rest l else refused))
  part_sits refused true rest l h g = g
  part_sits refused false rest l h g = tt
  part_sits (taken p) b rest l h g = h
  part_sits (left p r) b rest l h g = h

  pub turn_sits : (symbols : Symbols) (l : L) → Sits symbols → SitsThen (turn symbols l)
  turn_sits [] l h = tt
  turn_sits (S.Token t ∷ rest) l h = token_sits (takes t l) rest h
  turn_sits (S.Part n ∷ rest) l h =
      part_sits (chosen rank (productions n) l) (has_empty (productions n)) rest l (chosen_sits rank (productions n) (fits.follow n) l rest ((Heads.sits_part takes productions rank weight fits) n) h.0 h.1) (turn_sits rest l h.1)

  pub then_sits : (k : ℕ) (t : Turn T N L) (next : Symbols) → ((p : Symbols) (r : L) → turns k p r ≡ Some next → Sits p → Sits next) →
      Steps.after_turn takes productions rank weight t (λ p r. turns k p r) ≡ Some next → SitsThen t → Sits next
  then_sits k refused next f e h = absurd cc
  then_sits k (taken p) next f e h = let same : p ≡ next = cc in subst Sits same h
  then_sits k (left p r) next f e h = f p r e h

  pub turns_sits : (k : ℕ) (symbols next : Symbols) (l : L) → turns k symbols l ≡ Some next → Sits symbols → Sits next
  turns_sits zero symbols next l e h = absurd cc
  turns_sits (suc k) symbols next l e h = then_sits k (turn symbols l) next (λ p r i g. turns_sits k p next r i g) e (turn_sits symbols l h)
