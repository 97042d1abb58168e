-- Types in a list have fewer nodes than the list; a list of types is told from its data.
use Rattle.std.proofs.Common.{◌≡◌, ℕ, zero, suc, ◌<◌, List, [], ◌∷◌, length, get_or, map, refl, ap, arith}
use Rattle.core_ty.specs.Types.{Ty, more_tys, tys, nodes_ty, nodes_tys}
use Rattle.core_ty.specs.Substitution.{substitute, substitute_all}
pub use Rattle.core_ty.specs.Types.{tys_inj}

pub item : (xs : List Ty) (i : ℕ) (x : Ty) → i < length xs → x ≡ get_or xs i x → nodes_ty x < nodes_tys (tys xs)
item [] i x h e = absurd (omega arith)
item (y ∷ ys) zero x h e = rw e (omega arith)
item (y ∷ ys) (suc i) x h e = omega (arith, item ys i x (omega arith) e)

-- to substitute in a list is to substitute in each of its types
pub mapped : (args : List Ty) (xs : List Ty) → tys (map (substitute args) xs) ≡ substitute_all args (tys xs)
mapped args [] = refl
mapped args (x ∷ xs) = ap (λ r. more_tys (substitute args x) r) (mapped args xs)
