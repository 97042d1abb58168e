-- The fields of types, and the variants of declared types (LANGUAGE.md, "Places").
use Rattle.std.specs.Prelude.{ℕ, ◌+◌, ◌==◌, not, ◌&&◌, nat_lt, if◌then◌else◌, Option, Some, None, option_map, List, [], ◌∷◌, unwrap_or, length, slice_get, bytes_eq, ◌*◌, ◌-◌}
use Rattle.core_ty.specs.Substitution.{substitute}
use Rattle.core_ty.specs.declared.decl.TypeDecl.{TypeDecl}
use Rattle.core_ty.specs.declared.decl.Variant.{Variant}
use Rattle.core_ty.specs.Types as t

-- the number and the type of a field
abbrev pub Part : Type 0
Part = Option (ℕ × t.Ty)

-- the number that a name spells, where it is spelled as the place of a part is
abbrev pub digits_from : ℕ → List ℕ → Option ℕ
digits_from n [] = Some n
digits_from n (c ∷ cs) = if not (nat_lt c 48) && nat_lt c 58 then digits_from (n * 10 + (c - 48)) cs else None

abbrev pub place_named : List ℕ → Option ℕ
place_named [] = None
place_named (c ∷ []) = digits_from 0 (c ∷ [])
place_named (c ∷ d ∷ cs) = if c == 48 then None else digits_from 0 (c ∷ d ∷ cs)

abbrev pub at_place : List t.Ty → Option ℕ → Part
at_place xs None = None
at_place xs (Some k) = option_map (λ x. (k, x)) (slice_get xs k)

abbrev pub field_named : List ℕ → ℕ → List (List ℕ × t.Ty) → Part
field_named name k [] = None
field_named name k (f ∷ fs) = if bytes_eq f.0 name then Some (k, f.1) else field_named name (k + 1) fs

abbrev pub variant_fields : Option Variant → List (List ℕ × t.Ty)
variant_fields None = []
variant_fields (Some v) = v.fields

abbrev pub fields_at : Option TypeDecl → ℕ → List (List ℕ × t.Ty)
fields_at None v = []
fields_at (Some d) v = variant_fields (slice_get d.variants v)

-- the fields of a variant of a declared type
abbrev pub fields_of : List TypeDecl → ℕ → ℕ → List (List ℕ × t.Ty)
fields_of ds d v = fields_at (slice_get ds d) v

abbrev pub put_in : List t.Ty → Part → Part
put_in args None = None
put_in args (Some f) = Some (f.0, substitute args f.1)

abbrev pub struct_part : List t.Ty → List ℕ → Option TypeDecl → Part
struct_part args name None = None
struct_part args name (Some d) = if d.is_struct then put_in args (field_named name 0 (variant_fields (slice_get d.variants 0))) else None

-- Field: the type has no such field
abbrev pub part_of : List TypeDecl → List ℕ → t.Ty → Part
part_of ds name (t.tuple parts) = at_place (t.tys_list parts) (place_named name)
part_of ds name (t.named d args) = struct_part (t.tys_list args) name (slice_get ds d.0)
part_of ds name x = None

abbrev pub parameters_of : List TypeDecl → ℕ → ℕ
parameters_of ds d = unwrap_or (option_map (λ x. length x.params) (slice_get ds d)) 0
