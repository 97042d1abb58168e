-- A stack whose newest item is its last, and places that are further on.
use Rattle.std.proofs.Common.{◌≡◌, refl, ap, ◌∙◌, ℕ, suc, ◌+◌, arith, List, [], ◌∷◌, ◌++◌, reverse, Option, Some, None}
use Rattle.std.specs.Option.{option_map}
use Rattle.std.proofs.lemmas.List.{reverse-append}
use Rattle.table_reader.specs.Steps.{one_more}

pub popped : {A : Type 0} (old new : List A) (last : A) → old ≡ new ++ last ∷ [] → reverse old ≡ last ∷ reverse new
popped old new last e = ap reverse e ∙ reverse-append new (last ∷ [])

-- the place of a fault that is so many lexemes further on
abbrev pub further : ℕ → Option ℕ → Option ℕ
further n o = option_map (λ k. n + k) o

pub further_none : (o : Option ℕ) → o ≡ further 0 o
further_none None = refl
further_none (Some k) = let e : k ≡ 0 + k = omega arith in ap Some e

pub further_one : (n : ℕ) (o : Option ℕ) → further n (one_more o) ≡ further (n + 1) o
further_one n None = refl
further_one n (Some k) = let e : n + suc k ≡ n + 1 + k = omega arith in ap Some e
