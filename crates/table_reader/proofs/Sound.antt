-- What turns leave derives what comes after the lexeme, so the symbols before it derive it all.
use Rattle.std.proofs.Common.{◌≡◌, refl, subst, ℕ, zero, suc, inl, inr, Bool, true, false, List, [], ◌∷◌, ◌++◌, append_assoc, Option, Some, None}
use Rattle.std.specs.Prelude.{if◌then◌else◌, ◌&&◌}
use Rattle.table_reader.specs.declared.symbol.Symbol.{Symbol}
use Rattle.table_reader.specs.declared.symbol.Symbol.TheVariants as S
use Rattle.table_reader.specs.declared.take.Take.{Take}
use Rattle.table_reader.specs.declared.take.Take.TheVariants as K
use Rattle.table_reader.specs.Steps.{has_empty, Turn, refused, taken, left, turned, before, either, one_more, chosen, turn, turns, after_turn, step, may_end, fault_from, fault_after}
use Rattle.table_reader.specs.Derivations as D
use Rattle.table_reader.specs.Derivations.{IsOneOf, nothing, token, piece, part}

pub both : (a b : Bool) → a && b ≡ true → (a ≡ true) × (b ≡ true)
both true b h = (refl, h)
both false b h = absurd cc

pub empty_sound : {A : Type 0} (ps : List (List A)) → has_empty ps ≡ true → IsOneOf [] ps
empty_sound [] h = absurd cc
empty_sound ([] ∷ ps) h = inl refl
empty_sound ((s ∷ p) ∷ ps) h = inr (empty_sound ps h)

pub more_none : (o : Option ℕ) → one_more o ≡ None → o ≡ None
more_none None h = refl
more_none (Some k) h = absurd cc

module _ {T N L : Type 0} (takes : T → L → Take L) (productions : N → List (List (Symbol T N))) (rank : ℕ) (weight : L → ℕ) where
  abbrev Symbols : Type 0
  Symbols = List (Symbol T N)

  abbrev Derives : Symbols → List L → Type 0
  Derives s ls = D.Derives takes productions s ls

  -- what a turn leaves, before what is to come after it, derives these lexemes
  abbrev pub After : Turn T N L → Symbols → List L → Type 0
  After refused rest ls = ⊥
  After (taken p) rest ls = Derives (p ++ rest) ls
  After (left p r) rest ls = Derives (p ++ rest) (r ∷ ls)

  abbrev pub Then : Turn T N L → List L → Type 0
  Then refused ls = ⊥
  Then (taken p) ls = Derives p ls
  Then (left p r) ls = Derives p (r ∷ ls)

  -- one of the productions derives these lexemes
  pub record Begun (ps : List Symbols) (rest : Symbols) (ms : List L) : Type 0 where
    pub by : Symbols
    pub one : IsOneOf by ps
    pub derives : Derives (by ++ rest) ms

  later : (q : Symbols) (ps : List Symbols) (rest : Symbols) (ms : List L) → Begun ps rest ms → Begun (q ∷ ps) rest ms
  later q ps rest ms b = record { by = b.by; one = inr b.one; derives = b.derives }

  take_by : (k : Take L) (t : T) (p : Symbols) (ps : List Symbols) (other : Turn T N L) (l : L) (rest : Symbols) (ls : List L) → takes t l ≡ k →
      (After other rest ls → Begun ps rest (l ∷ ls)) → After (either (turned k p) other) rest ls → Begun ((S.Token t ∷ p) ∷ ps) rest (l ∷ ls)
  take_by K.No t p ps other l rest ls e f h = later (S.Token t ∷ p) ps rest (l ∷ ls) (f h)
  take_by K.Whole t p ps other l rest ls e f h = record { by = S.Token t ∷ p; one = inl refl; derives = token e h }
  take_by (K.Front half r) t p ps other l rest ls e f h = record { by = S.Token t ∷ p; one = inl refl; derives = piece half r e h }

  lead_by : (c : Turn T N L) (n : N) (p : Symbols) (ps : List Symbols) (other : Turn T N L) (l : L) (rest : Symbols) (ls : List L) →
      (After c (p ++ rest) ls → Begun (productions n) (p ++ rest) (l ∷ ls)) →
      (After other rest ls → Begun ps rest (l ∷ ls)) → After (before p c other) rest ls → Begun ((S.Part n ∷ p) ∷ ps) rest (l ∷ ls)
  lead_by refused n p ps other l rest ls g f h = later (S.Part n ∷ p) ps rest (l ∷ ls) (f h)
  lead_by (taken q) n p ps other l rest ls g f h =
      let b = g (subst (λ (s : Symbols). Derives s ls) (append_assoc q p rest) h) in
      record { by = S.Part n ∷ p; one = inl refl; derives = part b.by b.one b.derives }
  lead_by (left q r) n p ps other l rest ls g f h =
      let b = g (subst (λ (s : Symbols). Derives s (r ∷ ls)) (append_assoc q p rest) h) in
      record { by = S.Part n ∷ p; one = inl refl; derives = part b.by b.one b.derives }

  pub chosen_sound : (d : ℕ) (ps : List Symbols) (l : L) (rest : Symbols) (ls : List L) → After (chosen takes productions rank weight d ps l) rest ls → Begun ps rest (l ∷ ls)
  chosen_sound d [] l rest ls h = absurd h
  chosen_sound d ([] ∷ ps) l rest ls h = later [] ps rest (l ∷ ls) (chosen_sound d ps l rest ls h)
  chosen_sound d ((S.Token t ∷ p) ∷ ps) l rest ls h =
      take_by (takes t l) t p ps (chosen takes productions rank weight d ps l) l rest ls refl (chosen_sound d ps l rest ls) h
  chosen_sound zero ((S.Part n ∷ p) ∷ ps) l rest ls h = later (S.Part n ∷ p) ps rest (l ∷ ls) (chosen_sound zero ps l rest ls h)
  chosen_sound (suc d) ((S.Part n ∷ p) ∷ ps) l rest ls h =
      lead_by (chosen takes productions rank weight d (productions n) l) n p ps (chosen takes productions rank weight (suc d) ps l) l rest ls
      (chosen_sound d (productions n) l (p ++ rest) ls) (chosen_sound (suc d) ps l rest ls) h

  token_by : (k : Take L) (t : T) (rest : Symbols) (l : L) (ls : List L) → takes t l ≡ k → Then (turned k rest) ls → Derives (S.Token t ∷ rest) (l ∷ ls)
  token_by K.No t rest l ls e h = absurd h
  token_by K.Whole t rest l ls e h = token e h
  token_by (K.Front half r) t rest l ls e h = piece half r e h

  part_by : (c : Turn T N L) (b : Bool) (n : N) (rest : Symbols) (l : L) (ls : List L) → has_empty (productions n) ≡ b →
      (After c rest ls → Begun (productions n) rest (l ∷ ls)) → (Then (turn takes productions rank weight rest l) ls → Derives rest (l ∷ ls)) →
      Then (before rest c (if b then turn takes productions rank weight rest l else refused)) ls → Derives (S.Part n ∷ rest) (l ∷ ls)
  part_by refused true n rest l ls e g f h = part [] (empty_sound (productions n) e) (f h)
  part_by refused false n rest l ls e g f h = absurd h
  part_by (taken p) b n rest l ls e g f h = let d = g h in part d.by d.one d.derives
  part_by (left p r) b n rest l ls e g f h = let d = g h in part d.by d.one d.derives

  pub turn_sound : (symbols : Symbols) (l : L) (ls : List L) → Then (turn takes productions rank weight symbols l) ls → Derives symbols (l ∷ ls)
  turn_sound [] l ls h = absurd h
  turn_sound (S.Token t ∷ rest) l ls h = token_by (takes t l) t rest l ls refl h
  turn_sound (S.Part n ∷ rest) l ls h =
      part_by (chosen takes productions rank weight rank (productions n) l) (has_empty (productions n)) n rest l ls refl
      (chosen_sound rank (productions n) l rest ls) (turn_sound rest l ls) h

  then_by : (k : ℕ) (t : Turn T N L) (next : Symbols) (ls : List L) →
      ((p : Symbols) (r : L) → turns takes productions rank weight k p r ≡ Some next → Derives p (r ∷ ls)) →
      after_turn takes productions rank weight t (λ p r. turns takes productions rank weight k p r) ≡ Some next → Derives next ls → Then t ls
  then_by k refused next ls f e d = absurd cc
  then_by k (taken p) next ls f e d = let same : next ≡ p = cc in subst (λ (s : Symbols). Derives s ls) same d
  then_by k (left p r) next ls f e d = f p r e

  pub turns_sound : (k : ℕ) (symbols next : Symbols) (l : L) (ls : List L) → turns takes productions rank weight k symbols l ≡ Some next → Derives next ls → Derives symbols (l ∷ ls)
  turns_sound zero symbols next l ls e d = absurd cc
  turns_sound (suc k) symbols next l ls e d =
      turn_sound symbols l ls (then_by k (turn takes productions rank weight symbols l) next ls (λ p r i. turns_sound k p next r ls i d) e d)

  pub step_sound : (symbols next : Symbols) (l : L) (ls : List L) → step takes productions rank weight symbols l ≡ Some next → Derives next ls → Derives symbols (l ∷ ls)
  step_sound symbols next l ls e d = turns_sound (suc (weight l)) symbols next l ls e d

  pub end_sound : (symbols : Symbols) → may_end takes productions rank weight symbols ≡ true → Derives symbols []
  end_sound [] h = nothing
  end_sound (S.Token t ∷ rest) h = absurd cc
  end_sound (S.Part n ∷ rest) h =
      let two = both (has_empty (productions n)) (may_end takes productions rank weight rest) h in
      part [] (empty_sound (productions n) two.0) (end_sound rest two.1)

  end_by : (b : Bool) (symbols : Symbols) → may_end takes productions rank weight symbols ≡ b → (let o : Option ℕ = if b then None else Some 0 in o) ≡ None → Derives symbols []
  end_by true symbols e h = end_sound symbols e
  end_by false symbols e h = absurd cc

  next_by : (o : Option Symbols) (symbols : Symbols) (l : L) (ls : List L) → step takes productions rank weight symbols l ≡ o →
      ((next : Symbols) → fault_from takes productions rank weight next ls ≡ None → Derives next ls) →
      fault_after takes productions rank weight o (λ next. fault_from takes productions rank weight next ls) ≡ None → Derives symbols (l ∷ ls)
  next_by None symbols l ls e f h = absurd cc
  next_by (Some next) symbols l ls e f h = step_sound symbols next l ls e (f next (more_none (fault_from takes productions rank weight next ls) h))

  -- lexemes without a fault are derived
  pub none_sound : (symbols : Symbols) (ls : List L) → fault_from takes productions rank weight symbols ls ≡ None → Derives symbols ls
  none_sound symbols [] h = end_by (may_end takes productions rank weight symbols) symbols refl h
  none_sound symbols (l ∷ ls) h = next_by (step takes productions rank weight symbols l) symbols l ls refl (λ next. none_sound next ls) h
