-- What kind a type is.
use Rattle.std.specs.Prelude.{Bool, true, false, ◌&&◌, not}
use Rattle.core_ty.specs.Types as t

abbrev mutual
  -- whether a use of a value copies it: integers, bool, unit, `&T`, and tuples of these
  -- (LANGUAGE.md, "Types")
  pub is_copy : t.Ty → Bool
  is_copy (t.int i) = true
  is_copy t.bool = true
  is_copy t.unit = true
  is_copy (t.tuple parts) = all_copy parts
  is_copy (t.named d args) = false
  is_copy (t.param k) = false
  is_copy (t.boxed inner) = false
  is_copy (t.ref r mutable inner) = not mutable

  -- each of them does
  pub all_copy : t.Tys → Bool
  all_copy t.no_tys = true
  all_copy (t.more_tys x xs) = is_copy x && all_copy xs
