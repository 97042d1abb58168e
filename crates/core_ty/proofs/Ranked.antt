-- A declaration whose parts all have a lower rank doesn't contain itself, where no rank rises from
-- a declaration to its parts.
use Rattle.std.proofs.Common.{◌≡◌, ℕ, zero, suc, ◌-◌, ◌<◌, Bool, true, false, nat_lt, List, [], ◌∷◌, length, map, refl, sym, ◌∙◌, ap, arith}
use Rattle.std.specs.List.{All}
use Rattle.std.proofs.lemmas.List.Elements.{All-weaker}
use Rattle.std.proofs.lemmas.Bool.{lt-ltb, ltb-true, true≢false}
use Rattle.core_ty.specs.declared.decl.TypeDecl.{TypeDecl}
use Rattle.core_ty.specs.declared.parts.Part.{Part}
use Rattle.core_ty.specs.declared.parts.Part.TheVariants.{Parameter, Declared}
use Rattle.core_ty.specs.Containment.{IsEndless}
use Rattle.core_ty.specs.Marks.{is_set, HasShape, IsComplete, IsSeen, parts_by}
use Rattle.core_ty.specs.Ranks.{rank_of, IsWithin, AreRanks, Falls}
use Rattle.core_ty.proofs.Verdicts.{not_endless}

-- a mark for each declaration of a rank below `top`
abbrev pub below : List ℕ → ℕ → List Bool
below ranks top = map (λ r. nat_lt r top) ranks

below_long : (ranks : List ℕ) (top : ℕ) → length (below ranks top) ≡ length ranks
below_long [] top = refl
below_long (r ∷ ranks) top = ap suc (below_long ranks top)

below_is : (ranks : List ℕ) (top e : ℕ) → e < length ranks → is_set (below ranks top) e ≡ nat_lt (rank_of ranks e) top
below_is [] top e h = absurd (omega arith)
below_is (r ∷ ranks) top zero h = refl
below_is (r ∷ ranks) top (suc e) h = below_is ranks top e (omega arith)

low_rank : (ranks : List ℕ) (top e : ℕ) → is_set (below ranks top) e ≡ true → rank_of ranks e < top
low_rank [] top e s = absurd (true≢false (sym s))
low_rank (r ∷ ranks) top zero s = ltb-true r top s
low_rank (r ∷ ranks) top (suc e) s = low_rank ranks top e s

module _ (ds : List TypeDecl) (rows : List (List Bool)) (ranks : List ℕ) (d : ℕ)
    (shape : HasShape ds rows) (complete : (e : ℕ) → IsComplete ds rows e) (are : AreRanks ds rows ranks)
    (falls : Falls ds rows ranks d) where
  seen_within : (bound : ℕ) → bound < rank_of ranks d → (p : Part) → IsWithin ranks bound p → IsSeen (below ranks (rank_of ranks d)) p
  seen_within bound h (Parameter k) w = tt
  seen_within bound h (Declared e) w = λ low.
      let low' : e.0 < length ranks = omega (arith, below_long ranks (rank_of ranks d)) in
      below_is ranks (rank_of ranks d) e.0 low' ∙ lt-ltb (rank_of ranks e.0) (rank_of ranks d) (omega (arith, w low'))

  all_seen : (bound : ℕ) → bound < rank_of ranks d → (ps : List Part) → All (IsWithin ranks bound) ps → All (IsSeen (below ranks (rank_of ranks d))) ps
  all_seen bound h ps w = All-weaker (IsWithin ranks bound) (IsSeen (below ranks (rank_of ranks d))) (seen_within bound h) ps w

  unseen : (b : Bool) → is_set (below ranks (rank_of ranks d)) d ≡ b → b ≡ false
  unseen false s = refl
  unseen true s = let h = low_rank ranks (rank_of ranks d) d s in absurd (omega arith)

  pub falls_not_endless : d < length ds → IsEndless ds d → ⊥
  falls_not_endless low =
      not_endless ds rows d (below ranks (rank_of ranks d)) shape complete (below_long ranks (rank_of ranks d) ∙ are.0)
      (λ decl at. all_seen (rank_of ranks d - 1) (let h = falls.0 in omega arith) (parts_by rows decl) (falls.1 decl at))
      (λ e decl s at. all_seen (rank_of ranks e) (low_rank ranks (rank_of ranks d) e s) (parts_by rows decl) (are.1 e decl at))
      low (unseen (is_set (below ranks (rank_of ranks d)) d) refl)
