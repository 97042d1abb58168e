-- The fault that the turns find is the first: the table forces each choice.
use Rattle.std.proofs.Common.{◌≡◌, refl, subst, ℕ, zero, suc, arith, inl, inr, Bool, true, false, List, [], ◌∷◌, ◌++◌, map, take, append_assoc, Option, Some, None, MatchOption}
use Rattle.std.specs.Prelude.{if◌then◌else◌, ◌&&◌, not}
use Rattle.table_reader.specs.declared.symbol.Symbol.{Symbol}
use Rattle.table_reader.specs.declared.symbol.Symbol.TheVariants as S
use Rattle.table_reader.specs.declared.take.Take.{Take}
use Rattle.table_reader.specs.Steps.{has_empty, Turn, refused, taken, left, turned, before, either, one_more}
use Rattle.table_reader.specs.Steps as Steps
use Rattle.table_reader.specs.Derivations as D
use Rattle.table_reader.specs.Derivations.{IsOneOf, nothing, token, piece, part}
use Rattle.table_reader.specs.Conditions as C
use Rattle.table_reader.specs.Conditions.{accepts, single}
use Rattle.table_reader.proofs.Sound as Sound
use Rattle.table_reader.proofs.Sound.{both}
use Rattle.table_reader.proofs.Heads as Heads
use Rattle.table_reader.proofs.Following as Following
use Rattle.table_reader.proofs.Completeness as Completeness
use Rattle.table_reader.proofs.Heads.{of_left, of_right, of_append, left_of, right_of, and_both, not_true, all_of}

module _ {T N L : Type 0} (takes : T → L → Take L) (productions : N → List (List (Symbol T N))) (rank : ℕ) (weight : L → ℕ)
    (fits : C.Fits takes productions rank weight) where
  abbrev Symbols : Type 0
  Symbols = List (Symbol T N)

  abbrev Derives : Symbols → List L → Type 0
  Derives s ls = D.Derives takes productions s ls

  abbrev After : Turn T N L → Symbols → List L → Type 0
  After t rest ls = Sound.After takes productions rank weight t rest ls

  abbrev Then : Turn T N L → List L → Type 0
  Then t ls = Sound.Then takes productions rank weight t ls

  abbrev chosen : ℕ → List Symbols → L → Turn T N L
  chosen d ps l = Steps.chosen takes productions rank weight d ps l

  abbrev turn : Symbols → L → Turn T N L
  turn s l = Steps.turn takes productions rank weight s l

  abbrev turns : ℕ → Symbols → L → Option Symbols
  turns k s l = Steps.turns takes productions rank weight k s l

  abbrev heads : ℕ → List Symbols → List T
  heads d ps = C.heads productions d ps

  abbrev firsts : Symbols → List T → List T
  firsts p after = C.firsts productions rank fits.follow fits.apart fits.same p after

  abbrev firm : ℕ → List Symbols → Bool
  firm d ps = C.firm productions d ps

  abbrev sits : Symbols → List T → Bool
  sits p after = C.sits productions rank fits.follow fits.apart fits.same p after

  abbrev among : List T → List T → Bool
  among ts us = C.among productions rank fits.follow fits.apart fits.same ts us

  abbrev all_apart : List T → Bool
  all_apart ts = C.all_apart productions rank fits.follow fits.apart fits.same ts

  abbrev each_apart : List T → List T → Bool
  each_apart ts us = C.each_apart productions rank fits.follow fits.apart fits.same ts us

  -- a production that isn't empty derives something
  pub no_token : (t : T) (rest : Symbols) → Derives (S.Token t ∷ rest) [] → ⊥
  no_token t rest d = elim d [ ]

  pub lead_no_end : (n : N) (rest : Symbols) → ((q : Symbols) → IsOneOf q (productions n) → Derives (q ++ rest) [] → ⊥) → Derives (S.Part n ∷ rest) [] → ⊥
  lead_no_end n rest f (part q one d) = f q one d

  pub no_end : (d : ℕ) (ps : List Symbols) → firm d ps ≡ true → (q rest : Symbols) → IsOneOf q ps → (Heads.IsSome takes productions rank weight fits) q → Derives (q ++ rest) [] → ⊥
  no_end d [] h q rest i s x = i
  no_end d ([] ∷ ps) h [] rest i s x = s
  no_end d ([] ∷ ps) h (y ∷ q) rest (inl e) s x = cc
  no_end d ([] ∷ ps) h (y ∷ q) rest (inr i) s x = no_end d ps h (y ∷ q) rest i s x
  no_end d ((S.Token t ∷ p) ∷ ps) h q rest (inl e) s x = no_token t (p ++ rest) (subst (λ (z : Symbols). Derives (z ++ rest) []) e x)
  no_end d ((S.Token t ∷ p) ∷ ps) h q rest (inr i) s x = no_end d ps h q rest i s x
  no_end zero ((S.Part n ∷ p) ∷ ps) h q rest i s x = cc
  no_end (suc d) ((S.Part n ∷ p) ∷ ps) h q rest (inl e) s x =
      let g = left_of (not (has_empty (productions n)) && firm d (productions n)) _ h in
      lead_no_end n (p ++ rest)
      (λ w i y. no_end d (productions n) (right_of (not (has_empty (productions n))) _ g) w (p ++ rest) i
      ((Heads.some_of takes productions rank weight fits) w (productions n) ((Heads.none_empty takes productions rank weight fits) (has_empty (productions n)) (left_of (not (has_empty (productions n))) _ g)) i) y)
      (subst (λ (z : Symbols). Derives (z ++ rest) []) e x)
  no_end (suc d) ((S.Part n ∷ p) ∷ ps) h q rest (inr i) s x =
      no_end (suc d) ps (right_of (not (has_empty (productions n)) && firm d (productions n)) _ h) q rest i s x

  pub end_complete : (symbols : Symbols) → Derives symbols [] → Steps.may_end takes productions rank weight symbols ≡ true
  end_complete [] d = refl
  end_complete (S.Token t ∷ rest) d = absurd (no_token t rest d)
  end_complete (S.Part n ∷ rest) (part [] one d) =
      and_both (has_empty (productions n)) (Steps.may_end takes productions rank weight rest) ((Completeness.empty_complete takes productions rank weight fits) (productions n) one) (end_complete rest d)
  end_complete (S.Part n ∷ rest) (part (s ∷ q) one d) = absurd (no_end rank (productions n) ((Heads.firm_part takes productions rank weight fits) n) (s ∷ q) rest one tt d)

  -- any symbols derive some lexemes
  pub derives_both : (p : Symbols) (ls : List L) (q : Symbols) (us : List L) → Derives p ls → Derives q us → Derives (p ++ q) (ls ++ us)
  derives_both [] [] q us nothing e = e
  derives_both [] (l ∷ ls) q us d e = elim d [ ]
  derives_both (S.Token t ∷ p) [] q us d e = elim d [ ]
  derives_both (S.Token t ∷ p) (l ∷ ls) q us (token h d) e = token h (derives_both p ls q us d e)
  derives_both (S.Token t ∷ p) (l ∷ ls) q us (piece half r h d) e = piece half r h (derives_both p (r ∷ ls) q us d e)
  derives_both (S.Part n ∷ p) ls q us (part w one d) e =
      part w one (subst (λ (s : Symbols). Derives s (ls ++ us)) (append_assoc w p q) (derives_both (w ++ p) ls q us d e))

  pub record Completed (symbols : Symbols) : Type 0 where
    pub with : List L
    pub derives : Derives symbols with

  pub completed : (symbols : Symbols) → Completed symbols
  completed [] = record { with = []; derives = nothing }
  completed (S.Token t ∷ rest) =
      let c = completed rest in
      record { with = fits.sample t ∷ c.with; derives = token (fits.sampled t) c.derives }
  completed (S.Part n ∷ rest) =
      let c = completed rest in
      record {
        with = map fits.sample (fits.shortest n) ++ c.with;
        derives = derives_both (S.Part n ∷ []) (map fits.sample (fits.shortest n)) rest c.with
            (Sound.none_sound takes productions rank weight (S.Part n ∷ []) (map fits.sample (fits.shortest n)) (fits.ends n)) c.derives;
      }

  -- the lexemes leave what the symbols derive in this place
  abbrev pub step : Symbols → L → Option Symbols
  step s l = Steps.step takes productions rank weight s l

  abbrev pub may_end : Symbols → Bool
  may_end s = Steps.may_end takes productions rank weight s

  abbrev pub fault_from : Symbols → List L → Option ℕ
  fault_from s ls = Steps.fault_from takes productions rank weight s ls

  abbrev pub IsFault : Symbols → List L → ℕ → Type 0
  IsFault s ls k = D.IsFault takes productions s ls k

  abbrev pub Tells : Symbols → List L → Option ℕ → Type 0
  Tells symbols ls o = MatchOption o (Derives symbols ls) (IsFault symbols ls)

  pub end_by : (b : Bool) (symbols : Symbols) → may_end symbols ≡ b → Tells symbols [] (if b then None else Some 0)
  end_by true symbols e = Sound.end_sound takes productions rank weight symbols e
  end_by false symbols e =
      let c = completed symbols in
      record {
        within = omega arith;
        before = (c.with, c.derives);
        here = λ h. absurd (omega arith);
        ends = λ h d. let f = end_complete symbols d in cc;
      }

  pub stepped : (symbols : Symbols) (l : L) (ls : List L) → (Following.Sits takes productions rank weight fits) symbols → Derives symbols (l ∷ ls) → (Completeness.Stepped takes productions rank weight fits) (suc (weight l)) symbols l ls
  stepped symbols l ls s d = (Completeness.turns_complete takes productions rank weight fits) (suc (weight l)) symbols l ls (omega arith) s d

  pub none_by : (symbols : Symbols) (l : L) (us : List L) → (Following.Sits takes productions rank weight fits) symbols → step symbols l ≡ None → Derives symbols (l ∷ us) → ⊥
  none_by symbols l us h e d = let s = stepped symbols l us h d in let f = s.is in cc

  pub some_by : (symbols next : Symbols) (l : L) (us : List L) → (Following.Sits takes productions rank weight fits) symbols → step symbols l ≡ Some next → Derives symbols (l ∷ us) → Derives next us
  some_by symbols next l us h e d =
      let s = stepped symbols l us h d in
      let f = s.is in
      let same : s.next ≡ next = cc in
      subst (λ (n : Symbols). Derives n us) same s.after

  pub later_by : (o : Option ℕ) (symbols next : Symbols) (l : L) (ls : List L) → (Following.Sits takes productions rank weight fits) symbols → step symbols l ≡ Some next → Tells next ls o → Tells symbols (l ∷ ls) (one_more o)
  later_by None symbols next l ls h e t = Sound.step_sound takes productions rank weight symbols next l ls e t
  later_by (Some k) symbols next l ls h e t =
      let in_all = t.within in
      record {
        within = omega arith;
        before = (t.before.0, Sound.step_sound takes productions rank weight symbols next l (take k ls ++ t.before.0) e t.before.1);
        here = λ g v. t.here (omega arith) (v.0, some_by symbols next l (take (suc k) ls ++ v.0) h e v.1);
        ends = λ g d. t.ends (omega arith) (some_by symbols next l ls h e d);
      }

  pub next_by : (o : Option Symbols) (symbols : Symbols) (l : L) (ls : List L) → (Following.Sits takes productions rank weight fits) symbols → step symbols l ≡ o →
      ((next : Symbols) → (Following.Sits takes productions rank weight fits) next → Tells next ls (fault_from next ls)) → Tells symbols (l ∷ ls) (Steps.fault_after takes productions rank weight o (λ next. fault_from next ls))
  next_by None symbols l ls h e f =
      let c = completed symbols in
      record {
        within = omega arith;
        before = (c.with, c.derives);
        here = λ g v. none_by symbols l v.0 h e v.1;
        ends = λ g d. absurd (omega arith);
      }
  next_by (Some next) symbols l ls h e f =
      later_by (fault_from next ls) symbols next l ls h e (f next ((Following.turns_sits takes productions rank weight fits) (suc (weight l)) symbols next l e h))

  pub tells : (symbols : Symbols) (ls : List L) → (Following.Sits takes productions rank weight fits) symbols → Tells symbols ls (fault_from symbols ls)
  tells symbols [] h = end_by (may_end symbols) symbols refl
  tells symbols (l ∷ ls) h = next_by (step symbols l) symbols l ls h refl (λ next i. tells next ls i)

  pub exact : (n : N) (ls : List L) → Tells (S.Part n ∷ []) ls (fault_from (S.Part n ∷ []) ls)
  exact n ls = tells (S.Part n ∷ []) ls ((λ t i. absurd i), tt)
