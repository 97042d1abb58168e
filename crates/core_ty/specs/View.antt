-- The code's type nodes as data.
use Rattle.core_ty.specs.declared.ty.TyNode.{TyNode}
use Rattle.core_ty.specs.declared.ty.TyNode.TheVariants as T
use Rattle.core_ty.specs.Types as t

abbrev pub ty_of : TyNode → t.Ty
ty_of (T.Int ty) = t.int ty
ty_of T.Bool = t.bool
ty_of T.Unit = t.unit
ty_of (T.Tuple parts) = t.tuple (t.tys parts)
ty_of (T.Named d args) = t.named d (t.tys args)
ty_of (T.Param k) = t.param k
ty_of (T.Boxed inner) = t.boxed inner
ty_of (T.Ref r mutable inner) = t.ref r mutable inner
