-- `*` and fields of places and of values (LANGUAGE.md, "Places").
use Rattle.std.specs.Prelude.{Bool, ℕ, Option, Some, None}
use Rattle.aen_base.specs.declared.span.Span.{Span}
use Rattle.core_ty.specs.Shape.{is_copy}
use Rattle.type_rules.specs.Forms.{Raw, stands, held}
use Rattle.type_rules.specs.Places.{of_type}
use Rattle.rust_ast.specs.Spelled as s
use Rattle.core_ty.specs.Types as t

-- what a reference of this kind to this type leads to, where it stands
abbrev pub through : Bool → t.Ty → Raw → Raw
through m x (stands q y w) = stands (s.through q) x m
through m x (held v) = stands (s.through_value v) x m

-- what is in a box of this type, where it stands
abbrev pub within : Span → t.Ty → Raw → Raw
within p x (stands q y w) = stands (s.unbox q) x w
within p x (held v) = of_type x p (s.unbox_of v (is_copy x))

-- `*` of what has this type
abbrev pub dereferenced : t.Ty → Span → Raw → Option Raw
dereferenced (t.ref a m x) p r = Some (through m x r)
dereferenced (t.boxed x) p r = Some (within p x r)
dereferenced y p r = None

-- through references and boxes to the first other type
abbrev pub stripped : t.Ty → Span → Raw → Raw
stripped (t.ref a m x) p r = stripped x p (through m x r)
stripped (t.boxed x) p r = stripped x p (within p x r)
stripped y p r = r

abbrev pub field_of : Span → ℕ → t.Ty → Raw → Raw
field_of p k x (stands q y w) = stands (s.field q k) x w
field_of p k x (held v) = of_type x p (s.field_of v k (is_copy x))
