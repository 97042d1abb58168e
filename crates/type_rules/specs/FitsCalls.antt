-- Calls and constructors of a spelled program whose parts have the types that they must have.
use Rattle.std.specs.Prelude.{Bool, true, false, not, ◌&&◌, ◌==◌, nat_lt, slice_get, ℕ, Option, Some, None, List, [], ◌∷◌, length, ◌≡◌, ⊤}
use Rattle.std.specs.List.{list_any}
use Rattle.type_rules.specs.SoundTypes.{are_sound}
use Rattle.type_rules.specs.TypesInBodies.{numbers}
use Rattle.core_ty.specs.declared.decl.TypeDecl.{TypeDecl}
use Rattle.core_ty.specs.Signatures.{builtin_of}
use Rattle.core_ty.specs.Substitution.{substitute}
use Rattle.core_ty.specs.declared.decl.Sig.{Sig}
use Rattle.type_rules.specs.Arguments.{part_count}
use Rattle.type_rules.specs.Fields.{fields_of}
use Rattle.type_rules.specs.Frames.{Found, Frame, Same, field_at}
use Rattle.type_rules.specs.Places.{type_of}
use Rattle.type_rules.specs.TypeFacts.{count}
use Rattle.rust_ast.specs.Spelled as s
use Rattle.core_ty.specs.Types as t

-- a variant's parts, each of its field's type
abbrev pub PartsFit : Frame → ℕ → ℕ → List t.Ty → s.Parts → Type 0
PartsFit c d v args s.no_parts = ⊤
PartsFit c d v args (s.more_parts k y rest) = Found (field_at c.decls d v args k) (type_of y) × PartsFit c d v args rest

-- each number once
abbrev pub are_distinct : List ℕ → Bool
are_distinct [] = true
are_distinct (k ∷ ks) = not (list_any (λ j. j == k) ks) && are_distinct ks

abbrev pub part_numbers : s.Parts → List ℕ
part_numbers s.no_parts = []
part_numbers (s.more_parts k y rest) = k ∷ part_numbers rest

-- the type has such a variant
abbrev pub is_variant : Option TypeDecl → ℕ → Bool
is_variant None v = false
is_variant (Some d) v = nat_lt v (length d.variants)

-- a variant of a declared type: its parts are its fields, each once
abbrev pub Built : Frame → ℕ → ℕ → s.Parts → t.Ty → Type 0
Built c d v parts (t.named e args) =
    (d ≡ e.0) × (is_variant (slice_get c.decls d) v ≡ true) × (part_count parts ≡ length (fields_of c.decls d v))
    × (are_distinct (part_numbers parts) ≡ true) × PartsFit c d v (t.tys_list args) parts
Built c d v parts x = ⊥

-- arguments of a signature with type arguments put in
abbrev pub ArgumentsFit : List t.Ty → List t.Ty → s.Values → Type 0
ArgumentsFit args [] s.no_values = ⊤
ArgumentsFit args (x ∷ xs) (s.more_values v vs) = Same (substitute args x) (type_of v) × ArgumentsFit args xs vs
ArgumentsFit args xs vs = ⊥

-- a call of what has this signature: so many type arguments, in which no reference stands
abbrev pub CallFits : Frame → Option Sig → t.Tys → s.Values → t.Ty → Type 0
CallFits c None args vs x = ⊥
CallFits c (Some g) args vs x =
    (count args ≡ g.type_params) × (are_sound (numbers c.decls) c.params true args ≡ true) × ArgumentsFit (t.tys_list args) g.params vs × Same (substitute (t.tys_list args) g.result) x

abbrev pub sig_of : Frame → s.Callee → Option Sig
sig_of c (s.function f) = slice_get c.sigs f
sig_of c (s.builtin_of b) = Some (builtin_of b)
