-- The values of a type down to some level (LANGUAGE.md, "Coverage").
use Rattle.std.specs.Prelude.{Bool, true, false, ℕ, zero, suc, ◌+◌, Option, Some, None, List, [], ◌∷◌, map, slice_get, ◌++◌, ℤ}
use Rattle.core_ty.specs.Substitution.{substitute}
use Rattle.core_ty.specs.declared.decl.TypeDecl.{TypeDecl}
use Rattle.core_ty.specs.declared.decl.Variant.{Variant}
use Rattle.core_ty.specs.Types as t

-- a value down to some level: a number, one that no pattern names, a constructor by its number with
-- its parts (a tuple's is 0), or anything
mutual
  pub data Skeleton : Type 0 where
    anything : Skeleton
    numeral : ℤ → Skeleton
    other : Skeleton
    boolean : Bool → Skeleton
    made : ℕ → Skeletons → Skeleton

  pub data Skeletons : Type 0 where
    no_skeletons : Skeletons
    more_skeletons : Skeleton → Skeletons → Skeletons

abbrev pub content : t.Ty → t.Ty
content (t.ref r m x) = x
content x = x

abbrev pub put_before : List Skeleton → List Skeletons → List Skeletons
put_before [] rows = []
put_before (x ∷ xs) rows = map (more_skeletons x) rows ++ put_before xs rows

-- all rows of parts of these types
abbrev pub rows : (t.Ty → List Skeleton) → List t.Ty → List Skeletons
rows f [] = no_skeletons ∷ []
rows f (x ∷ xs) = put_before (f x) (rows f xs)

abbrev pub field_types : List t.Ty → List (List ℕ × t.Ty) → List t.Ty
field_types args [] = []
field_types args (f ∷ fs) = substitute args f.1 ∷ field_types args fs

-- the skeletons of each variant, of which the first has number k
abbrev pub of_variants : (t.Ty → List Skeleton) → List t.Ty → ℕ → List Variant → List Skeleton
of_variants f args k [] = []
of_variants f args k (v ∷ vs) = map (made k) (rows f (field_types args v.fields)) ++ of_variants f args (k + 1) vs

abbrev pub of_declared : (t.Ty → List Skeleton) → List t.Ty → Option TypeDecl → List Skeleton
of_declared f args None = []
of_declared f args (Some d) = of_variants f args 0 d.variants

-- the skeletons of a type, where those of its parts are given; a box and a type parameter are not
-- looked into
abbrev pub level : (t.Ty → List Skeleton) → List TypeDecl → List ℤ → t.Ty → List Skeleton
level f ds zs (t.int i) = other ∷ map numeral zs
level f ds zs t.bool = boolean true ∷ boolean false ∷ []
level f ds zs t.unit = made 0 no_skeletons ∷ []
level f ds zs (t.tuple xs) = map (made 0) (rows f (t.tys_list xs))
level f ds zs (t.named d args) = of_declared f (t.tys_list args) (slice_get ds d.0)
level f ds zs (t.param k) = anything ∷ []
level f ds zs (t.boxed x) = anything ∷ []
level f ds zs (t.ref r m x) = anything ∷ []

-- the skeletons of a type down to a level, with nothing known below; of the numbers those that the
-- patterns name, and one for all others
abbrev pub skeletons : List TypeDecl → List ℤ → ℕ → t.Ty → List Skeleton
skeletons ds zs zero x = anything ∷ []
skeletons ds zs (suc n) x = level (skeletons ds zs n) ds zs (content x)
