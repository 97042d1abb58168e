-- The type parameters of a declared type in order.
use Rattle.std.proofs.Common.{◌≡◌, ℕ, zero, suc, ◌+◌, List, [], ◌∷◌, ◌++◌, refl, ap, sym, ◌∙◌, arith}
use Rattle.core_ty.specs.Types as t
use Rattle.type_rules.specs.Callees.{parameters_from}

abbrev pub from : ℕ → ℕ → List t.Ty
from zero k = []
from (suc n) k = t.param k ∷ from n (k + 1)

pub in_order : (n k : ℕ) → t.tys (from n k) ≡ parameters_from n k
in_order zero k = refl
in_order (suc n) k = ap (t.more_tys (t.param k)) (in_order n (k + 1))

plus_one : (i : ℕ) → suc i ≡ i + 1
plus_one i = omega arith

longer : (n k m : ℕ) → m ≡ k + n → from (suc n) k ≡ from n k ++ t.param m ∷ []
longer zero k m h = let e : k ≡ m = omega (arith, h) in ap (λ (j : ℕ). t.param j ∷ []) e
longer (suc n) k m h = ap (λ (xs : List t.Ty). t.param k ∷ xs) (longer n (k + 1) m (omega (arith, h)))

pub one_more : (n : ℕ) → from (n + 1) 0 ≡ from n 0 ++ t.param n ∷ []
one_more n = ap (λ m. from m 0) (sym (plus_one n)) ∙ longer n 0 n (omega arith)
