-- Where references stand in a type (LANGUAGE.md, "Types").
use Rattle.std.specs.Prelude.{ℕ, ◌+◌, List, [], ◌∷◌, ◌++◌}
use Rattle.core_ty.specs.declared.places.Position.{Position}
use Rattle.core_ty.specs.Types as t

abbrev mutual
  -- the references in a type that stands at this path, in written order: references stand only at
  -- parts of tuples, and a path has the numbers of the parts
  pub positions_at : List ℕ → t.Ty → List Position
  positions_at path (t.int i) = []
  positions_at path t.bool = []
  positions_at path t.unit = []
  positions_at path (t.tuple parts) = positions_from path 0 parts
  positions_at path (t.named d args) = []
  positions_at path (t.param k) = []
  positions_at path (t.boxed inner) = []
  positions_at path (t.ref r mutable inner) = record { path = path; region = r; mutable = mutable; inner = inner } ∷ []

  -- those in a tuple's parts, of which the first has number k
  pub positions_from : List ℕ → ℕ → t.Tys → List Position
  positions_from path k t.no_tys = []
  positions_from path k (t.more_tys x xs) = positions_at (path ++ k ∷ []) x ++ positions_from path (k + 1) xs
