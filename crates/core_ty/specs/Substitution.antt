-- Types put in the place of type parameters (LANGUAGE.md, "Types").
use Rattle.std.specs.Prelude.{List, slice_get, unwrap_or}
use Rattle.core_ty.specs.Types as t

abbrev mutual
  -- the type with each parameter replaced by the type in its place; a parameter that has none stays
  pub substitute : List t.Ty → t.Ty → t.Ty
  substitute args (t.int i) = t.int i
  substitute args t.bool = t.bool
  substitute args t.unit = t.unit
  substitute args (t.tuple parts) = t.tuple (substitute_all args parts)
  substitute args (t.named d parts) = t.named d (substitute_all args parts)
  substitute args (t.param k) = unwrap_or (slice_get args k) (t.param k)
  substitute args (t.boxed inner) = t.boxed (substitute args inner)
  substitute args (t.ref r mutable inner) = t.ref r mutable (substitute args inner)

  pub substitute_all : List t.Ty → t.Tys → t.Tys
  substitute_all args t.no_tys = t.no_tys
  substitute_all args (t.more_tys x xs) = t.more_tys (substitute args x) (substitute_all args xs)
