-- A type's parts have fewer nodes than the type.
use Rattle.std.specs.Prelude.{◌+◌, ◌≤◌, List, [], ◌∷◌}
use Rattle.std.proofs.Common.{arith}
use denote.Param.Weighed.{most}
use Rattle.core_ty.specs.declared.ty.TyNode.{TyNode}
use Rattle.core_ty.specs.declared.ty.TyNode.TheVariants as T
use Rattle.core_ty.specs.declared.ty.Ty.TheDeep.{deep-TyNode}
use Rattle.core_ty.specs.Types as t
use Rattle.core_ty.specs.View.{ty_of}

most_tys : (xs : List t.Ty) → most (λ x. t.nodes_ty x + 1) xs ≤ t.nodes_tys (t.tys xs) + 1
most_tys [] = omega arith
most_tys (x ∷ xs) = omega (arith, most_tys xs)

pub ty_falls : (n : TyNode) → deep-TyNode n ≤ t.nodes_ty (ty_of n)
ty_falls (T.Tuple parts) = omega (arith, most_tys parts)
ty_falls (T.Named d args) = omega (arith, most_tys args)
ty_falls _ = omega arith
