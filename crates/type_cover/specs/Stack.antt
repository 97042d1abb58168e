-- Columns on a stack: each is a type with the level down to which it is looked into.
use Rattle.std.specs.Prelude.{ℕ, zero, suc, ◌+◌, ◌<◌, ◌≤◌, Bool, Option, Some, None, List, [], ◌∷◌, ◌++◌, map, slice_get, refl, ◌≡◌}
use Rattle.std.specs.List.{list_all}
use Rattle.std.proofs.Common.{ap, arith}
use Rattle.std.proofs.lemmas.Option.{same_Some}
use Rattle.core_ty.specs.declared.decl.TypeDecl.{TypeDecl}
use Rattle.core_ty.specs.declared.decl.Variant.{Variant}
use Rattle.type_rules.specs.Skeletons.{content, field_types}
use Rattle.type_cover.specs.Rows.{Row}
use Rattle.type_cover.specs.Splitting as splitting
use Rattle.type_cover.specs.Splitting.{by_ways, columns, some_row, split}
use Rattle.type_cover.specs.Ways.{Way, numbers_first, ways}
use Rattle.core_ty.specs.Types as t

abbrev pub Column : Type 0
Column = t.Ty × ℕ

-- the rows meet all values of these columns
abbrev pub covers : List TypeDecl → List Column → List Row → Bool
covers ds [] rows = some_row rows
covers ds (c ∷ cs) rows = split ds c.1 c.0 rows (covers ds cs)

abbrev pub at_level : ℕ → t.Ty → Column
at_level n x = (x, n)

-- columns of parts before other columns
pub parts_before : (ds : List TypeDecl) (n : ℕ) (xs : List t.Ty) (cs : List Column) (rows : List Row) →
    columns (split ds n) xs rows (covers ds cs) ≡ covers ds (map (at_level n) xs ++ cs) rows
parts_before ds n [] cs rows = refl
parts_before ds n (x ∷ xs) cs rows = ap (split ds n x rows) (λ i more. parts_before ds n xs cs more i)

-- ---- a column in front of others, of a type that is no reference

abbrev pub at_way : List TypeDecl → ℕ → List Column → List Row → Way → Bool
at_way ds n cs rows w = splitting.at_way (split ds n) rows (covers ds cs) w

abbrev pub at_ways : List TypeDecl → ℕ → List Column → List Row → List Way → Bool
at_ways ds n cs rows ws = list_all (at_way ds n cs rows) ws

abbrev pub by_type : List TypeDecl → t.Ty → ℕ → List Column → List Row → Bool
by_type ds x n cs rows = by_ways (split ds n) (ways ds (numbers_first rows) x) rows (covers ds cs)

-- ---- how many columns may still be split one in another

abbrev pub parts_weight : (t.Ty → ℕ) → List t.Ty → ℕ
parts_weight f [] = 0
parts_weight f (x ∷ xs) = f x + parts_weight f xs

abbrev pub variants_weight : (t.Ty → ℕ) → List t.Ty → List Variant → ℕ
variants_weight f args [] = 0
variants_weight f args (v ∷ vs) = parts_weight f (field_types args v.fields) + variants_weight f args vs

abbrev pub declared_weight : (t.Ty → ℕ) → List t.Ty → Option TypeDecl → ℕ
declared_weight f args None = 0
declared_weight f args (Some d) = variants_weight f args d.variants

abbrev pub level_weight : (t.Ty → ℕ) → List TypeDecl → t.Ty → ℕ
level_weight f ds (t.tuple xs) = parts_weight f (t.tys_list xs)
level_weight f ds (t.named d args) = declared_weight f (t.tys_list args) (slice_get ds d.0)
level_weight f ds x = 0

abbrev pub weight : List TypeDecl → ℕ → t.Ty → ℕ
weight ds zero x = 1
weight ds (suc n) x = suc (level_weight (weight ds n) ds (content x))

abbrev pub columns_weight : List TypeDecl → List Column → ℕ
columns_weight ds [] = 0
columns_weight ds (c ∷ cs) = weight ds c.1 c.0 + columns_weight ds cs

pub weighs : (ds : List TypeDecl) (n : ℕ) (x : t.Ty) → 0 < weight ds n x
weighs ds zero x = omega arith
weighs ds (suc n) x = omega arith

pub parts_weigh : (ds : List TypeDecl) (n : ℕ) (xs : List t.Ty) (cs : List Column) →
    columns_weight ds (map (at_level n) xs ++ cs) ≡ parts_weight (weight ds n) xs + columns_weight ds cs
parts_weigh ds n [] cs = omega arith
parts_weigh ds n (x ∷ xs) cs = omega (arith, parts_weigh ds n xs cs)

pub variant_weighs : (f : t.Ty → ℕ) (args : List t.Ty) (vs : List Variant) (k : ℕ) (v : Variant) → slice_get vs k ≡ Some v →
    parts_weight f (field_types args v.fields) ≤ variants_weight f args vs
variant_weighs f args [] k v e = absurd cc
variant_weighs f args (w ∷ vs) zero v e = omega (arith, ap (λ x. parts_weight f (field_types args x.fields)) (same_Some w v e))
variant_weighs f args (w ∷ vs) (suc k) v e = omega (arith, variant_weighs f args vs k v e)
