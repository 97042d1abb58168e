-- Types that may stand in a program: declared types have their numbers of arguments, and references stand
-- at parts of tuples alone (LANGUAGE.md, "Types").
use Rattle.std.specs.Prelude.{ℕ, ◌==◌, Bool, true, false, not, ◌&&◌, Option, Some, None, List, nat_lt, slice_get}
use Rattle.core_ty.specs.Types as t
use Rattle.type_rules.specs.TypeFacts.{count}

abbrev pub is_number : Option ℕ → ℕ → Bool
is_number None n = false
is_number (Some k) n = k == n

abbrev mutual
  -- a type among so many type parameters, where declared types have these numbers of them; `inside` a
  -- declared type, Box, type argument or reference no reference may stand
  pub is_sound : List ℕ → ℕ → Bool → t.Ty → Bool
  is_sound ns n inside (t.int i) = true
  is_sound ns n inside t.bool = true
  is_sound ns n inside t.unit = true
  is_sound ns n inside (t.tuple xs) = are_sound ns n inside xs
  is_sound ns n inside (t.named d args) = is_number (slice_get ns d.0) (count args) && are_sound ns n true args
  is_sound ns n inside (t.param k) = nat_lt k n
  is_sound ns n inside (t.boxed x) = is_sound ns n true x
  is_sound ns n inside (t.ref r m x) = not inside && is_sound ns n true x

  pub are_sound : List ℕ → ℕ → Bool → t.Tys → Bool
  are_sound ns n inside t.no_tys = true
  are_sound ns n inside (t.more_tys x xs) = is_sound ns n inside x && are_sound ns n inside xs
