-- The constructors of a type with the types of their parts (LANGUAGE.md, "Coverage").
use Rattle.std.specs.Prelude.{true, false, ℕ, ◌+◌, if◌then◌else◌, Option, Some, None, List, [], ◌∷◌, ◌++◌, length, map, slice_get, ℤ}
use Rattle.std.specs.List.{list_any}
use Rattle.std.specs.Ordering.{int_eq}
use Rattle.core_ty.specs.declared.decl.TypeDecl.{TypeDecl}
use Rattle.core_ty.specs.declared.decl.Variant.{Variant}
use Rattle.type_rules.specs.Skeletons.{field_types}
use Rattle.type_cover.specs.Rows.{Head, Row, boolean, made, numeral, other}
use Rattle.rust_ast.specs.SpelledPatterns as q
use Rattle.core_ty.specs.Types as t

-- the number that a pattern is, not one in its parts
abbrev pub number_of : q.Pat → Option ℤ
number_of (q.number n) = Some n.value
number_of (q.through m p) = number_of p
number_of p = None

abbrev pub with_new : Option ℤ → List ℤ → List ℤ
with_new None zs = zs
with_new (Some z) zs = if list_any (int_eq z) zs then zs else zs ++ z ∷ []

abbrev pub numbers_onto : List ℤ → List Row → List ℤ
numbers_onto zs [] = zs
numbers_onto zs ([] ∷ rows) = numbers_onto zs rows
numbers_onto zs ((p ∷ ps) ∷ rows) = numbers_onto (with_new (number_of p) zs) rows

-- the numbers that the first column names, each once
abbrev pub numbers_first : List Row → List ℤ
numbers_first rows = numbers_onto [] rows

-- a constructor with the types of its parts
abbrev pub Way : Type 0
Way = Head × List t.Ty

abbrev pub way : ℕ → List t.Ty → Way
way v xs = (made v (length xs), xs)

abbrev pub variant_ways : List t.Ty → ℕ → List Variant → List Way
variant_ways args k [] = []
variant_ways args k (v ∷ vs) = way k (field_types args v.fields) ∷ variant_ways args (k + 1) vs

abbrev pub declared_ways : List t.Ty → Option TypeDecl → List Way
declared_ways args None = []
declared_ways args (Some d) = variant_ways args 0 d.variants

abbrev pub number_way : ℤ → Way
number_way z = (numeral z, [])

abbrev pub number_ways : List ℤ → List Way
number_ways zs = (other, []) ∷ map number_way zs

abbrev pub bool_ways : List Way
bool_ways = (boolean true, []) ∷ (boolean false, []) ∷ []

-- the constructors of a type that is looked into, where the column names these numbers; `None`: it isn't
abbrev pub ways : List TypeDecl → List ℤ → t.Ty → Option (List Way)
ways ds zs (t.int i) = Some (number_ways zs)
ways ds zs t.bool = Some bool_ways
ways ds zs t.unit = Some (way 0 [] ∷ [])
ways ds zs (t.tuple xs) = Some (way 0 (t.tys_list xs) ∷ [])
ways ds zs (t.named d args) = Some (declared_ways (t.tys_list args) (slice_get ds d.0))
ways ds zs (t.param k) = None
ways ds zs (t.boxed x) = None
ways ds zs (t.ref r m x) = None
