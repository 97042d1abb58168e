-- A step goes on wherever the symbols derive the lexeme and others after it.
use Rattle.std.proofs.Common.{◌≡◌, refl, subst, ℕ, zero, suc, ◌<◌, arith, inl, inr, Bool, true, false, List, [], ◌∷◌, ◌++◌, Option, Some}
use Rattle.std.specs.Prelude.{if◌then◌else◌}
use Rattle.table_reader.specs.declared.symbol.Symbol.{Symbol}
use Rattle.table_reader.specs.declared.symbol.Symbol.TheVariants as S
use Rattle.table_reader.specs.declared.take.Take.{Take}
use Rattle.table_reader.specs.declared.take.Take.TheVariants as K
use Rattle.table_reader.specs.Steps.{has_empty, Turn, refused, taken, left, turned, before, either, one_more}
use Rattle.table_reader.specs.Steps as Steps
use Rattle.table_reader.specs.Derivations as D
use Rattle.table_reader.specs.Derivations.{IsOneOf, nothing, token, piece, part}
use Rattle.table_reader.specs.Conditions as C
use Rattle.table_reader.specs.Conditions.{accepts, single}
use Rattle.table_reader.proofs.Sound as Sound
use Rattle.table_reader.proofs.Sound.{both}
use Rattle.table_reader.proofs.Heads as Heads
use Rattle.table_reader.proofs.Choices as Choices
use Rattle.table_reader.proofs.Following as Following
use Rattle.table_reader.proofs.Heads.{of_left, of_right, of_append, left_of, right_of, and_both, not_true, all_of}

module _ {T N L : Type 0} (takes : T → L → Take L) (productions : N → List (List (Symbol T N))) (rank : ℕ) (weight : L → ℕ)
    (fits : C.Fits takes productions rank weight) where
  abbrev Symbols : Type 0
  Symbols = List (Symbol T N)

  abbrev Derives : Symbols → List L → Type 0
  Derives s ls = D.Derives takes productions s ls

  abbrev After : Turn T N L → Symbols → List L → Type 0
  After t rest ls = Sound.After takes productions rank weight t rest ls

  abbrev Then : Turn T N L → List L → Type 0
  Then t ls = Sound.Then takes productions rank weight t ls

  abbrev chosen : ℕ → List Symbols → L → Turn T N L
  chosen d ps l = Steps.chosen takes productions rank weight d ps l

  abbrev turn : Symbols → L → Turn T N L
  turn s l = Steps.turn takes productions rank weight s l

  abbrev turns : ℕ → Symbols → L → Option Symbols
  turns k s l = Steps.turns takes productions rank weight k s l

  abbrev heads : ℕ → List Symbols → List T
  heads d ps = C.heads productions d ps

  abbrev firsts : Symbols → List T → List T
  firsts p after = C.firsts productions rank fits.follow fits.apart fits.same p after

  abbrev firm : ℕ → List Symbols → Bool
  firm d ps = C.firm productions d ps

  abbrev sits : Symbols → List T → Bool
  sits p after = C.sits productions rank fits.follow fits.apart fits.same p after

  abbrev among : List T → List T → Bool
  among ts us = C.among productions rank fits.follow fits.apart fits.same ts us

  abbrev all_apart : List T → Bool
  all_apart ts = C.all_apart productions rank fits.follow fits.apart fits.same ts

  abbrev each_apart : List T → List T → Bool
  each_apart ts us = C.each_apart productions rank fits.follow fits.apart fits.same ts us

  -- a turn goes on wherever the symbols derive the lexeme and others after it
  pub empty_complete : (ps : List Symbols) → IsOneOf [] ps → has_empty ps ≡ true
  empty_complete [] h = absurd h
  empty_complete ([] ∷ ps) h = refl
  empty_complete ((s ∷ p) ∷ ps) (inl e) = absurd cc
  empty_complete ((s ∷ p) ∷ ps) (inr h) = empty_complete ps h

  pub right_by : (b : Bool) (hs fs : List T) (l : L) → b ≡ true → (Heads.Begins takes productions rank weight fits) fs l → (Heads.Begins takes productions rank weight fits) (hs ++ (if b then fs else [])) l
  right_by true hs fs l e b = (Heads.to_right takes productions rank weight fits) hs fs l b
  right_by false hs fs l e b = absurd cc

  pub derives_begins : (symbols : Symbols) (l : L) (ls : List L) → Derives symbols (l ∷ ls) → (Heads.Begins takes productions rank weight fits) (firsts symbols []) l
  derives_begins [] l ls d = elim d [ ]
  derives_begins (S.Token t ∷ rest) l ls d = record { with = t; one = inl refl; good = (Heads.head_token takes productions rank weight fits) t rest l ls d }
  derives_begins (S.Part n ∷ rest) l ls (part [] one d) =
      right_by (has_empty (productions n)) (heads rank (productions n)) (firsts rest []) l (empty_complete (productions n) one) (derives_begins rest l ls d)
  derives_begins (S.Part n ∷ rest) l ls (part (s ∷ q) one d) =
      (Heads.to_left takes productions rank weight fits) (heads rank (productions n)) (if has_empty (productions n) then firsts rest [] else []) l
      ((Heads.begun_heads takes productions rank weight fits) rank (productions n) ((Heads.firm_part takes productions rank weight fits) n) (s ∷ q) rest l ls one tt d)

  pub ends_by : (b : Bool) (hs fs : List T) → b ≡ true → (if b then each_apart hs fs else true) ≡ true → (Heads.Apart takes productions rank weight fits) hs fs
  ends_by true hs fs e h = (Heads.apart_each takes productions rank weight fits) hs fs h
  ends_by false hs fs e h = absurd cc

  pub empty_then : (c : Turn T N L) (b : Bool) (rest : Symbols) (l : L) (ls : List L) → ((Heads.Goes takes productions rank weight fits) c → ⊥) → b ≡ true → Then (turn rest l) ls → Then (before rest c (if b then turn rest l else refused)) ls
  empty_then refused true rest l ls f e h = h
  empty_then refused false rest l ls f e h = absurd cc
  empty_then (taken p) b rest l ls f e h = absurd (f tt)
  empty_then (left p r) b rest l ls f e h = absurd (f tt)

  pub some_then : (c other : Turn T N L) (rest : Symbols) (ls : List L) → After c rest ls → Then (before rest c other) ls
  some_then refused other rest ls h = absurd h
  some_then (taken p) other rest ls h = h
  some_then (left p r) other rest ls h = h

  pub whole_then : (k : Take L) (rest : Symbols) (ls : List L) → k ≡ K.Whole → Derives rest ls → Then (turned k rest) ls
  whole_then K.No rest ls e d = absurd cc
  whole_then K.Whole rest ls e d = d
  whole_then (K.Front half r) rest ls e d = absurd cc

  pub front_then : (k : Take L) (rest : Symbols) (ls : List L) (half r : L) → k ≡ K.Front half r → Derives rest (r ∷ ls) → Then (turned k rest) ls
  front_then K.No rest ls half r e d = absurd cc
  front_then K.Whole rest ls half r e d = absurd cc
  front_then (K.Front bit q) rest ls half r e d = let same : r ≡ q = cc in subst (λ (m : L). Derives rest (m ∷ ls)) same d

  pub turn_complete : (symbols : Symbols) (l : L) (ls : List L) → (Following.Sits takes productions rank weight fits) symbols → Derives symbols (l ∷ ls) → Then (turn symbols l) ls
  turn_complete [] l ls h d = elim d [ ]
  turn_complete (S.Token t ∷ rest) l ls h (token e d) = whole_then (takes t l) rest ls e d
  turn_complete (S.Token t ∷ rest) l ls h (piece half r e d) = front_then (takes t l) rest ls half r e d
  turn_complete (S.Part n ∷ rest) l ls h (part [] one d) =
      let b = derives_begins rest l ls d in
      let e = empty_complete (productions n) one in
      empty_then (chosen rank (productions n) l) (has_empty (productions n)) rest l ls
      (λ g. (Heads.clash takes productions rank weight fits) (heads rank (productions n)) (fits.follow n) l (ends_by (has_empty (productions n)) (heads rank (productions n)) (fits.follow n) e ((Heads.ends_part takes productions rank weight fits) n))
      ((Heads.chosen_goes takes productions rank weight fits) rank (productions n) l g) (record { with = b.with; one = h.0 b.with b.one; good = b.good }))
      e (turn_complete rest l ls h.1 d)
  turn_complete (S.Part n ∷ rest) l ls h (part (s ∷ q) one d) =
      some_then (chosen rank (productions n) l) (if has_empty (productions n) then turn rest l else refused) rest ls
      ((Choices.chosen_complete takes productions rank weight fits) rank (productions n) ((Heads.firm_part takes productions rank weight fits) n) ((Heads.heads_part takes productions rank weight fits) n) (s ∷ q) rest l ls one tt d)

  -- a turn that takes a front leaves a lighter lexeme
  abbrev pub Lighter : Turn T N L → L → Type 0
  Lighter refused l = Unit {0}
  Lighter (taken p) l = Unit {0}
  Lighter (left p r) l = weight r < weight l

  pub take_lighter : (k : Take L) (t : T) (p : Symbols) (other : Turn T N L) (l : L) → takes t l ≡ k → Lighter other l → Lighter (either (turned k p) other) l
  take_lighter K.No t p other l e h = h
  take_lighter K.Whole t p other l e h = tt
  take_lighter (K.Front half r) t p other l e h = fits.lighter t l half r e

  pub before_lighter : (c : Turn T N L) (p : Symbols) (other : Turn T N L) (l : L) → Lighter c l → Lighter other l → Lighter (before p c other) l
  before_lighter refused p other l h g = g
  before_lighter (taken q) p other l h g = tt
  before_lighter (left q r) p other l h g = h

  pub chosen_lighter : (d : ℕ) (ps : List Symbols) (l : L) → Lighter (chosen d ps l) l
  chosen_lighter d [] l = tt
  chosen_lighter d ([] ∷ ps) l = chosen_lighter d ps l
  chosen_lighter d ((S.Token t ∷ p) ∷ ps) l = take_lighter (takes t l) t p (chosen d ps l) l refl (chosen_lighter d ps l)
  chosen_lighter zero ((S.Part n ∷ p) ∷ ps) l = chosen_lighter zero ps l
  chosen_lighter (suc d) ((S.Part n ∷ p) ∷ ps) l = before_lighter (chosen d (productions n) l) p (chosen (suc d) ps l) l (chosen_lighter d (productions n) l) (chosen_lighter (suc d) ps l)

  pub if_lighter : (b : Bool) (t : Turn T N L) (l : L) → Lighter t l → Lighter (if b then t else refused) l
  if_lighter true t l h = h
  if_lighter false t l h = tt

  pub turn_lighter : (symbols : Symbols) (l : L) → Lighter (turn symbols l) l
  turn_lighter [] l = tt
  turn_lighter (S.Token t ∷ rest) l = token_lighter (takes t l) t rest l refl
    where
      token_lighter : (k : Take L) (t : T) (rest : Symbols) (l : L) → takes t l ≡ k → Lighter (turned {T = T} {N = N} {L = L} k rest) l
      token_lighter K.No t rest l e = tt
      token_lighter K.Whole t rest l e = tt
      token_lighter (K.Front half r) t rest l e = fits.lighter t l half r e
  turn_lighter (S.Part n ∷ rest) l =
      before_lighter (chosen rank (productions n) l) rest (if has_empty (productions n) then turn rest l else refused) l (chosen_lighter rank (productions n) l)
      (if_lighter (has_empty (productions n)) (turn rest l) l (turn_lighter rest l))

  -- the step
  pub record Stepped (k : ℕ) (symbols : Symbols) (l : L) (ls : List L) : Type 0 where
    pub next : Symbols
    pub is : turns k symbols l ≡ Some next
    pub after : Derives next ls

  pub record Gone (k : ℕ) (t : Turn T N L) (ls : List L) : Type 0 where
    pub next : Symbols
    pub is : Steps.after_turn takes productions rank weight t (λ p r. turns k p r) ≡ Some next
    pub after : Derives next ls

  pub gone_by : (k : ℕ) (t : Turn T N L) (l : L) (ls : List L) → ((p : Symbols) (r : L) → weight r < weight l → (Following.Sits takes productions rank weight fits) p → Derives p (r ∷ ls) → Stepped k p r ls) →
      Lighter t l → (Following.SitsThen takes productions rank weight fits) t → Then t ls → Gone k t ls
  gone_by k refused l ls f w s h = absurd h
  gone_by k (taken p) l ls f w s h = record { next = p; is = refl; after = h }
  gone_by k (left p r) l ls f w s h = let g = f p r w s h in record { next = g.next; is = g.is; after = g.after }

  pub turns_complete : (k : ℕ) (symbols : Symbols) (l : L) (ls : List L) → weight l < k → (Following.Sits takes productions rank weight fits) symbols → Derives symbols (l ∷ ls) → Stepped k symbols l ls
  turns_complete zero symbols l ls w s d = absurd (omega arith)
  turns_complete (suc k) symbols l ls w s d =
      let g = gone_by k (turn symbols l) l ls (λ p r v i e. turns_complete k p r ls (omega (arith, v, w)) i e) (turn_lighter symbols l) ((Following.turn_sits takes productions rank weight fits) symbols l s) (turn_complete symbols l ls s d) in
      record { next = g.next; is = g.is; after = g.after }
