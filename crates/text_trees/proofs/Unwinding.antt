-- A stack of parts that wait: the newest takes the value of the part in hand; a fault goes through all of them.
use Rattle.std.proofs.Common.{◌≡◌, ℕ, ◌+◌, List, [], ◌∷◌, ◌++◌, refl, ap, arith}
use Rattle.std.specs.Prelude.{Result, Err}
use Rattle.aen_base.specs.declared.span.Span.{Span}
use Rattle.text_trees.specs.Told.{and_then, unwind, weigh}

module _ {F A : Type 0} (gives : F → A → Result A Span) where
  pub unwind_last : (fs : List F) (f : F) (o : Result A Span) → unwind gives (fs ++ f ∷ []) o ≡ unwind gives fs (and_then o (gives f))
  unwind_last [] f o = refl
  unwind_last (g ∷ fs) f o = ap (λ z. and_then z (gives g)) (unwind_last fs f o)

  pub unwind_fault : (fs : List F) (place : Span) → unwind gives fs (Err place) ≡ Err place
  unwind_fault [] place = refl
  unwind_fault (g ∷ fs) place = ap (λ z. and_then z (gives g)) (unwind_fault fs place)

module _ {F : Type 0} (weight : F → ℕ) where
  pub weigh_last : (fs : List F) (f : F) → weigh weight (fs ++ f ∷ []) ≡ weigh weight fs + weight f
  weigh_last [] f = omega arith
  weigh_last (g ∷ fs) f = let h = weigh_last fs f in omega (arith, h)
