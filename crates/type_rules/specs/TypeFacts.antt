-- What is asked of types (LANGUAGE.md, "Types").
use Rattle.std.specs.Prelude.{Bool, true, false, ℕ, suc, ◌+◌, ◌==◌, not, ◌&&◌, ◌||◌, nat_lt}
use denote.Enum.Bare.{sameb}
use Rattle.aen_base.specs.Numbers.{is_signed}
use Rattle.aen_base.specs.contracts.int_ty.IntTy.{the_type}
use Rattle.aen_base.specs.declared.ids.RegionId.{RegionId}
use Rattle.core_ty.specs.Types as t

-- the region of references inside bodies, where regions have no meaning
abbrev pub no_region : RegionId
no_region = record { 0 = 0 }

abbrev mutual
  -- the nodes of a type
  pub size : t.Ty → ℕ
  size (t.int i) = 1
  size t.bool = 1
  size t.unit = 1
  size (t.tuple parts) = size_all parts + 1
  size (t.named d args) = size_all args + 1
  size (t.param k) = 1
  size (t.boxed i) = size i + 1
  size (t.ref r m i) = size i + 1

  pub size_all : t.Tys → ℕ
  size_all t.no_tys = 0
  size_all (t.more_tys x xs) = size x + size_all xs

-- the limit `type_nodes` is passed
unfoldable pub is_large : t.Ty → Bool
is_large x = nat_lt 1000 (size x)

abbrev mutual
  -- one type but for the regions of references
  pub same : t.Ty → t.Ty → Bool
  same (t.int i) (t.int j) = sameb the_type i j
  same t.bool t.bool = true
  same t.unit t.unit = true
  same (t.tuple xs) (t.tuple ys) = same_all xs ys
  same (t.named d xs) (t.named e ys) = (d.0 == e.0) && same_all xs ys
  same (t.param j) (t.param k) = j == k
  same (t.boxed x) (t.boxed y) = same x y
  same (t.ref r true x) (t.ref q true y) = same x y
  same (t.ref r false x) (t.ref q false y) = same x y
  same x y = false

  pub same_all : t.Tys → t.Tys → Bool
  same_all t.no_tys t.no_tys = true
  same_all (t.more_tys x xs) (t.more_tys y ys) = same x y && same_all xs ys
  same_all xs ys = false

abbrev mutual
  -- a reference stands in the type
  pub has_reference : t.Ty → Bool
  has_reference (t.int i) = false
  has_reference t.bool = false
  has_reference t.unit = false
  has_reference (t.tuple parts) = any_reference parts
  has_reference (t.named d args) = any_reference args
  has_reference (t.param k) = false
  has_reference (t.boxed i) = has_reference i
  has_reference (t.ref r m i) = true

  pub any_reference : t.Tys → Bool
  any_reference t.no_tys = false
  any_reference (t.more_tys x xs) = has_reference x || any_reference xs

abbrev pub is_reference : t.Ty → Bool
is_reference (t.ref r m i) = true
is_reference x = false

abbrev pub is_integer : t.Ty → Bool
is_integer (t.int i) = true
is_integer x = false

abbrev pub is_integer_or_bool : t.Ty → Bool
is_integer_or_bool (t.int i) = true
is_integer_or_bool t.bool = true
is_integer_or_bool x = false

abbrev pub is_signed_integer : t.Ty → Bool
is_signed_integer (t.int i) = is_signed i
is_signed_integer x = false

-- NotInteger: a type that the operator doesn't take
abbrev pub is_not_integer : (t.Ty → Bool) → t.Ty → Bool
is_not_integer takes x = not (takes x)

-- NestedBorrow: a borrow of a type that holds a reference
abbrev pub is_nested_borrow : t.Ty → Bool
is_nested_borrow x = has_reference x

-- the wanted type stands in a type, perhaps inside boxes
abbrev pub reaches : t.Ty → t.Ty → Bool
reaches (t.boxed i) q = same (t.boxed i) q || reaches i q
reaches x q = same x q

-- how many types
abbrev pub count : t.Tys → ℕ
count t.no_tys = 0
count (t.more_tys x xs) = suc (count xs)
