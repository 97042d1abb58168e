-- How many types there are.
use Rattle.std.proofs.Common.{◌≡◌, suc, List, [], ◌∷◌, length, refl, ap}
use Rattle.core_ty.specs.Types as t
use Rattle.type_rules.specs.TypeFacts.{count}

pub count_is : (xs : List t.Ty) → count (t.tys xs) ≡ length xs
count_is [] = refl
count_is (x ∷ xs) = ap (λ n. suc n) (count_is xs)
