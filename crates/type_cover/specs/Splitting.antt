-- Rows of patterns are split by the first column: for each constructor of its type, the rows that it
-- meets, with a column for each of its parts. A column in which all is open needs no split
-- (LANGUAGE.md, "Coverage").
use Rattle.std.specs.Prelude.{ℕ, zero, suc, Bool, true, false, ◌||◌, if◌then◌else◌, Option, Some, None, List, [], ◌∷◌, map, slice_get}
use Rattle.std.specs.List.{list_all, list_any}
use Rattle.core_ty.specs.declared.decl.TypeDecl.{TypeDecl}
use Rattle.core_ty.specs.declared.decl.Variant.{Variant}
use Rattle.type_rules.specs.Coverage.{levels}
use Rattle.type_rules.specs.Skeletons.{content, field_types}
use Rattle.type_cover.specs.Rows.{Row, begins_open, open_rows, rows_at}
use Rattle.type_cover.specs.Ways.{Way, numbers_first, ways}
use Rattle.rust_ast.specs.SpelledPatterns as q
use Rattle.core_ty.specs.Types as t

-- a variant that has no value, where a field has none
abbrev pub void_variant : (t.Ty → Bool) → List t.Ty → Variant → Bool
void_variant f args v = list_any f (field_types args v.fields)

abbrev pub void_declared : (t.Ty → Bool) → List t.Ty → Option TypeDecl → Bool
void_declared f args None = true
void_declared f args (Some d) = list_all (void_variant f args) d.variants

-- a type that has no value, where that is known of its parts
abbrev pub void_level : (t.Ty → Bool) → List TypeDecl → t.Ty → Bool
void_level f ds (t.int i) = false
void_level f ds t.bool = false
void_level f ds t.unit = false
void_level f ds (t.tuple xs) = list_any f (t.tys_list xs)
void_level f ds (t.named d args) = void_declared f (t.tys_list args) (slice_get ds d.0)
void_level f ds (t.param k) = false
void_level f ds (t.boxed x) = false
void_level f ds (t.ref r m x) = false

-- a type that has no value down to a level
abbrev pub is_void : List TypeDecl → ℕ → t.Ty → Bool
is_void ds zero x = false
is_void ds (suc n) x = void_level (is_void ds n) ds (content x)

-- what is asked of the rows when the columns before are done
abbrev pub Onward : Type 0
Onward = List Row → Bool

-- columns of these types one after the other
abbrev pub columns : (t.Ty → List Row → Onward → Bool) → List t.Ty → List Row → Onward → Bool
columns split [] rows onward = onward rows
columns split (x ∷ xs) rows onward = split x rows (λ more. columns split xs more onward)

abbrev pub at_way : (t.Ty → List Row → Onward → Bool) → List Row → Onward → Way → Bool
at_way split rows onward w = columns split w.1 (rows_at w.0 rows) onward

abbrev pub by_ways : (t.Ty → List Row → Onward → Bool) → Option (List Way) → List Row → Onward → Bool
by_ways split None rows onward = onward (open_rows rows)
by_ways split (Some ws) rows onward = list_all (at_way split rows onward) ws

-- every value of the type, down to a level, leaves rows of which the rest is true
abbrev pub split : List TypeDecl → ℕ → t.Ty → List Row → Onward → Bool
split ds zero x rows onward = onward (open_rows rows)
split ds (suc n) x rows onward =
    if list_all begins_open rows then is_void ds (suc n) x || onward (open_rows rows)
    else by_ways (split ds n) (ways ds (numbers_first rows) (content x)) rows onward

abbrev pub some_row : Onward
some_row [] = false
some_row (r ∷ rows) = true

abbrev pub as_row : q.Pat → Row
as_row p = p ∷ []

-- the patterns cover the type
abbrev pub splits_whole : List TypeDecl → t.Ty → List q.Pat → Bool
splits_whole ds x ps = split ds (levels ps) x (map as_row ps) some_row
