-- What is asked of a table, so that the next lexeme decides.
use Rattle.std.specs.Prelude.{◌≡◌, ℕ, zero, suc, ◌<◌, Bool, true, false, not, ◌&&◌, if◌then◌else◌, List, [], ◌∷◌, ◌++◌, map, None}
use Rattle.std.specs.List.{list_all, list_any}
use Rattle.table_reader.specs.declared.symbol.Symbol.{Symbol}
use Rattle.table_reader.specs.declared.symbol.Symbol.TheVariants as S
use Rattle.table_reader.specs.declared.take.Take.{Take}
use Rattle.table_reader.specs.declared.take.Take.TheVariants as K
use Rattle.table_reader.specs.Steps.{has_empty, fault_from}

-- a token that takes a lexeme, whole or its front
abbrev pub accepts : {L : Type 0} → Take L → Bool
accepts K.No = false
accepts K.Whole = true
accepts (K.Front piece r) = true

-- at most one is empty
abbrev pub single : {A : Type 0} → List (List A) → Bool
single [] = true
single ([] ∷ ps) = not (has_empty ps)
single ((s ∷ p) ∷ ps) = single ps

module _ {T N : Type 0} (productions : N → List (List (Symbol T N))) where
  -- the tokens that productions begin with, through leading parts of so much less rank
  abbrev pub heads : ℕ → List (List (Symbol T N)) → List T
  heads d [] = []
  heads d ([] ∷ ps) = heads d ps
  heads d ((S.Token t ∷ p) ∷ ps) = t ∷ heads d ps
  heads zero ((S.Part n ∷ p) ∷ ps) = heads zero ps
  heads (suc d) ((S.Part n ∷ p) ∷ ps) = heads d (productions n) ++ heads (suc d) ps

  -- each leading part is never empty, and its rank is less
  abbrev pub firm : ℕ → List (List (Symbol T N)) → Bool
  firm d [] = true
  firm d ([] ∷ ps) = firm d ps
  firm d ((S.Token t ∷ p) ∷ ps) = firm d ps
  firm zero ((S.Part n ∷ p) ∷ ps) = false
  firm (suc d) ((S.Part n ∷ p) ∷ ps) = (not (has_empty (productions n)) && firm d (productions n)) && firm (suc d) ps

module _ {T N : Type 0} (productions : N → List (List (Symbol T N))) (rank : ℕ) (follow : N → List T) (apart same : T → T → Bool) where
  -- the tokens that these symbols begin with, where these tokens may come after them
  abbrev pub firsts : List (Symbol T N) → List T → List T
  firsts [] after = after
  firsts (S.Token t ∷ p) after = t ∷ []
  firsts (S.Part n ∷ p) after = heads productions rank (productions n) ++ (if has_empty (productions n) then firsts p after else [])

  abbrev pub among : List T → List T → Bool
  among ts us = list_all (λ t. list_any (same t) us) ts

  -- what comes after each part of these symbols is among what may follow it
  abbrev pub sits : List (Symbol T N) → List T → Bool
  sits [] after = true
  sits (S.Token t ∷ p) after = sits p after
  sits (S.Part n ∷ p) after = among (firsts p after) (follow n) && sits p after

  abbrev pub all_apart : List T → Bool
  all_apart [] = true
  all_apart (t ∷ ts) = list_all (apart t) ts && all_apart ts

  abbrev pub each_apart : List T → List T → Bool
  each_apart ts us = list_all (λ t. list_all (apart t) us) ts

  -- what is asked of a part: leading parts are firm; its productions begin apart; what follows is among `follow`;
  -- where it may be empty, it begins apart from what follows it, and is empty in one way
  abbrev pub fits_part : N → Bool
  fits_part n =
      firm productions rank (productions n) && (all_apart (heads productions rank (productions n))
      && (list_all (λ p. sits p (follow n)) (productions n)
      && ((if has_empty (productions n) then each_apart (heads productions rank (productions n)) (follow n) else true)
      && single (productions n))))

-- a table from which first faults can be told, and values
pub record Fits {T N L : Type 0} (takes : T → L → Take L) (productions : N → List (List (Symbol T N))) (rank : ℕ) (weight : L → ℕ) : Type 0 where
  -- the tokens that may come after a part (any table that passes the test), tokens that are apart, tokens that are the same
  pub follow : N → List T
  pub apart : T → T → Bool
  pub same : T → T → Bool
  -- decided by going through the table
  pub table : (n : N) → fits_part productions rank follow apart same n ≡ true
  -- each part is derived in some way: a lexeme of each token, and tokens that a part derives
  pub sample : T → L
  pub shortest : N → List T
  pub ends : (n : N) → fault_from takes productions rank weight (S.Part n ∷ []) (map sample (shortest n)) ≡ None
  -- of tokens: no lexeme is taken by two that are apart; what is left of a lexeme is lighter
  pub sampled : (t : T) → takes t (sample t) ≡ K.Whole
  pub apart_right : (t u : T) (l : L) → apart t u ≡ true → accepts (takes t l) ≡ true → accepts (takes u l) ≡ true → ⊥
  pub same_right : (t u : T) → same t u ≡ true → t ≡ u
  pub lighter : (t : T) (l taken left : L) → takes t l ≡ K.Front taken left → weight left < weight l
