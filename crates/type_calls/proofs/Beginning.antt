-- What is found at the beginning, parameter by parameter.
use Rattle.std.proofs.Common.{◌≡◌, ℕ, zero, suc, ◌+◌, List, [], ◌∷◌, ◌++◌, refl, ap, sym, ◌∙◌, arith, slice_get}
use Rattle.std.specs.Prelude.{Option, Some, None}
use Rattle.core_ty.specs.Types as t
use Rattle.type_rules.specs.Matching.{begun}

plus_one : (i : ℕ) → suc i ≡ i + 1
plus_one i = omega arith

abbrev nothing : List t.Ty
nothing = []

nothing_at : (i : ℕ) → None ≡ slice_get nothing i
nothing_at zero = refl
nothing_at (suc i) = refl

grows : (i : ℕ) (xs : List t.Ty) → begun (suc i) xs ≡ begun i xs ++ slice_get xs i ∷ []
grows zero [] = refl
grows zero (x ∷ xs) = refl
grows (suc i) [] = ap (λ (fs : List (Option t.Ty)). None ∷ fs) (grows i [] ∙ ap (λ (o : Option t.Ty). begun i [] ++ o ∷ []) (sym (nothing_at i))) ∙ ap (λ (o : Option t.Ty). None ∷ (begun i [] ++ o ∷ [])) (nothing_at (suc i))
grows (suc i) (x ∷ xs) = ap (λ (fs : List (Option t.Ty)). Some x ∷ fs) (grows i xs)

pub begins : (i : ℕ) (xs : List t.Ty) → begun (i + 1) xs ≡ begun i xs ++ slice_get xs i ∷ []
begins i xs = ap (λ n. begun n xs) (sym (plus_one i)) ∙ grows i xs
