-- The production by which lexemes are derived is the one that is chosen.
use Rattle.std.proofs.Common.{◌≡◌, refl, sym, subst, ℕ, zero, suc, inl, inr, Bool, true, List, [], ◌∷◌, ◌++◌, append_assoc, Option}
use Rattle.std.specs.Prelude.{◌&&◌, not}
use Rattle.std.specs.List.{list_all}
use Rattle.table_reader.specs.declared.symbol.Symbol.{Symbol}
use Rattle.table_reader.specs.declared.symbol.Symbol.TheVariants as S
use Rattle.table_reader.specs.declared.take.Take.{Take}
use Rattle.table_reader.specs.declared.take.Take.TheVariants as K
use Rattle.table_reader.specs.Steps.{has_empty, Turn, refused, taken, left, turned, before, either, one_more}
use Rattle.table_reader.specs.Steps as Steps
use Rattle.table_reader.specs.Derivations as D
use Rattle.table_reader.specs.Derivations.{IsOneOf, nothing, token, piece, part}
use Rattle.table_reader.specs.Conditions as C
use Rattle.table_reader.specs.Conditions.{accepts, single}
use Rattle.table_reader.proofs.Sound as Sound
use Rattle.table_reader.proofs.Sound.{both}
use Rattle.table_reader.proofs.Heads as Heads
use Rattle.table_reader.proofs.Heads.{of_left, of_right, of_append, left_of, right_of, and_both, not_true, all_of}

module _ {T N L : Type 0} (takes : T → L → Take L) (productions : N → List (List (Symbol T N))) (rank : ℕ) (weight : L → ℕ)
    (fits : C.Fits takes productions rank weight) where
  abbrev Symbols : Type 0
  Symbols = List (Symbol T N)

  abbrev Derives : Symbols → List L → Type 0
  Derives s ls = D.Derives takes productions s ls

  abbrev After : Turn T N L → Symbols → List L → Type 0
  After t rest ls = Sound.After takes productions rank weight t rest ls

  abbrev Then : Turn T N L → List L → Type 0
  Then t ls = Sound.Then takes productions rank weight t ls

  abbrev chosen : ℕ → List Symbols → L → Turn T N L
  chosen d ps l = Steps.chosen takes productions rank weight d ps l

  abbrev turn : Symbols → L → Turn T N L
  turn s l = Steps.turn takes productions rank weight s l

  abbrev turns : ℕ → Symbols → L → Option Symbols
  turns k s l = Steps.turns takes productions rank weight k s l

  abbrev heads : ℕ → List Symbols → List T
  heads d ps = C.heads productions d ps

  abbrev firsts : Symbols → List T → List T
  firsts p after = C.firsts productions rank fits.follow fits.apart fits.same p after

  abbrev firm : ℕ → List Symbols → Bool
  firm d ps = C.firm productions d ps

  abbrev sits : Symbols → List T → Bool
  sits p after = C.sits productions rank fits.follow fits.apart fits.same p after

  abbrev among : List T → List T → Bool
  among ts us = C.among productions rank fits.follow fits.apart fits.same ts us

  abbrev all_apart : List T → Bool
  all_apart ts = C.all_apart productions rank fits.follow fits.apart fits.same ts

  abbrev each_apart : List T → List T → Bool
  each_apart ts us = C.each_apart productions rank fits.follow fits.apart fits.same ts us

  -- the choice is forced
  pub take_whole : (k : Take L) (p : Symbols) (other : Turn T N L) (rest : Symbols) (ls : List L) → k ≡ K.Whole → Derives (p ++ rest) ls → After (either (turned k p) other) rest ls
  take_whole K.No p other rest ls e d = absurd cc
  take_whole K.Whole p other rest ls e d = d
  take_whole (K.Front half r) p other rest ls e d = absurd cc

  pub take_front : (k : Take L) (p : Symbols) (other : Turn T N L) (rest : Symbols) (ls : List L) (half r : L) → k ≡ K.Front half r → Derives (p ++ rest) (r ∷ ls) → After (either (turned k p) other) rest ls
  take_front K.No p other rest ls half r e d = absurd cc
  take_front K.Whole p other rest ls half r e d = absurd cc
  take_front (K.Front bit q) p other rest ls half r e d = let same : r ≡ q = cc in subst (λ (m : L). Derives (p ++ rest) (m ∷ ls)) same d

  pub take_other : (k : Take L) (p : Symbols) (other : Turn T N L) (rest : Symbols) (ls : List L) → (accepts k ≡ true → ⊥) → After other rest ls → After (either (turned k p) other) rest ls
  take_other K.No p other rest ls f a = a
  take_other K.Whole p other rest ls f a = absurd (f refl)
  take_other (K.Front half r) p other rest ls f a = absurd (f refl)

  pub take_here : (t : T) (p : Symbols) (other : Turn T N L) (rest : Symbols) (l : L) (ls : List L) → Derives (S.Token t ∷ (p ++ rest)) (l ∷ ls) → After (either (turned (takes t l) p) other) rest ls
  take_here t p other rest l ls (token e d) = take_whole (takes t l) p other rest ls e d
  take_here t p other rest l ls (piece half r e d) = take_front (takes t l) p other rest ls half r e d

  pub lead_first : (c : Turn T N L) (p : Symbols) (other : Turn T N L) (rest : Symbols) (ls : List L) → After c (p ++ rest) ls → After (before p c other) rest ls
  lead_first refused p other rest ls a = absurd a
  lead_first (taken q) p other rest ls a = subst (λ (s : Symbols). Derives s ls) (sym (append_assoc q p rest)) a
  lead_first (left q r) p other rest ls a = subst (λ (s : Symbols). Derives s (r ∷ ls)) (sym (append_assoc q p rest)) a

  pub lead_later : (c : Turn T N L) (p : Symbols) (other : Turn T N L) (rest : Symbols) (ls : List L) → ((Heads.Goes takes productions rank weight fits) c → ⊥) → After other rest ls → After (before p c other) rest ls
  lead_later refused p other rest ls f a = a
  lead_later (taken q) p other rest ls f a = absurd (f tt)
  lead_later (left q r) p other rest ls f a = absurd (f tt)

  pub lead_complete : (d : ℕ) (n : N) (p rest : Symbols) (l : L) (ls : List L) → not (has_empty (productions n)) && firm d (productions n) ≡ true →
      ((q : Symbols) → IsOneOf q (productions n) → (Heads.IsSome takes productions rank weight fits) q → Derives (q ++ (p ++ rest)) (l ∷ ls) → After (chosen d (productions n) l) (p ++ rest) ls) →
      Derives (S.Part n ∷ (p ++ rest)) (l ∷ ls) → After (chosen d (productions n) l) (p ++ rest) ls
  lead_complete d n p rest l ls h f (part q one x) =
      f q one ((Heads.some_of takes productions rank weight fits) q (productions n) ((Heads.none_empty takes productions rank weight fits) (has_empty (productions n)) (left_of (not (has_empty (productions n))) _ h)) one) x

  pub chosen_complete : (d : ℕ) (ps : List Symbols) → firm d ps ≡ true → all_apart (heads d ps) ≡ true → (q rest : Symbols) (l : L) (ls : List L) → IsOneOf q ps → (Heads.IsSome takes productions rank weight fits) q →
      Derives (q ++ rest) (l ∷ ls) → After (chosen d ps l) rest ls
  chosen_complete d [] h a q rest l ls i s x = absurd i
  chosen_complete d ([] ∷ ps) h a [] rest l ls i s x = absurd s
  chosen_complete d ([] ∷ ps) h a (y ∷ q) rest l ls (inl e) s x = absurd cc
  chosen_complete d ([] ∷ ps) h a (y ∷ q) rest l ls (inr i) s x = chosen_complete d ps h a (y ∷ q) rest l ls i s x
  chosen_complete d ((S.Token t ∷ p) ∷ ps) h a q rest l ls (inl e) s x =
      take_here t p (chosen d ps l) rest l ls (subst (λ (z : Symbols). Derives (z ++ rest) (l ∷ ls)) e x)
  chosen_complete d ((S.Token t ∷ p) ∷ ps) h a q rest l ls (inr i) s x =
      let b = (Heads.begun_heads takes productions rank weight fits) d ps h q rest l ls i s x in
      take_other (takes t l) p (chosen d ps l) rest ls
      (λ g. fits.apart_right t b.with l (all_of (fits.apart t) (heads d ps) b.with (left_of (list_all (fits.apart t) (heads d ps)) _ a) b.one) g b.good)
      (chosen_complete d ps h (right_of (list_all (fits.apart t) (heads d ps)) _ a) q rest l ls i s x)
  chosen_complete zero ((S.Part n ∷ p) ∷ ps) h a q rest l ls i s x = absurd cc
  chosen_complete (suc d) ((S.Part n ∷ p) ∷ ps) h a q rest l ls (inl e) s x =
      lead_first (chosen d (productions n) l) p (chosen (suc d) ps l) rest ls
      (lead_complete d n p rest l ls (left_of (not (has_empty (productions n)) && firm d (productions n)) _ h)
      (λ w i y z. chosen_complete d (productions n) (right_of (not (has_empty (productions n))) _ (left_of (not (has_empty (productions n)) && firm d (productions n)) _ h))
      ((Heads.apart_front takes productions rank weight fits) (heads d (productions n)) (heads (suc d) ps) a) w (p ++ rest) l ls i y z)
      (subst (λ (z : Symbols). Derives (z ++ rest) (l ∷ ls)) e x))
  chosen_complete (suc d) ((S.Part n ∷ p) ∷ ps) h a q rest l ls (inr i) s x =
      let g = right_of (not (has_empty (productions n)) && firm d (productions n)) _ h in
      let b = (Heads.begun_heads takes productions rank weight fits) (suc d) ps g q rest l ls i s x in
      lead_later (chosen d (productions n) l) p (chosen (suc d) ps l) rest ls
      (λ c. (Heads.clash takes productions rank weight fits) (heads d (productions n)) (heads (suc d) ps) l ((Heads.apart_both takes productions rank weight fits) (heads d (productions n)) (heads (suc d) ps) a) ((Heads.chosen_goes takes productions rank weight fits) d (productions n) l c) b)
      (chosen_complete (suc d) ps g ((Heads.apart_tail takes productions rank weight fits) (heads d (productions n)) (heads (suc d) ps) a) q rest l ls i s x)
