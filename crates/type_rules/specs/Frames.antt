-- What is known in a function of a spelled program, and the types of its places.
use Rattle.type_rules.specs.SoundTypes.{is_sound}
use Rattle.type_rules.specs.TypesInBodies.{numbers}
use Rattle.std.specs.Prelude.{Bool, true, false, ℕ, ◌==◌, if◌then◌else◌, Option, Some, None, option_map, List, [], ◌∷◌, slice_get, ◌≡◌}
use Rattle.core_ty.specs.Substitution.{substitute}
use Rattle.core_ty.specs.declared.decl.Sig.{Sig}
use Rattle.core_ty.specs.declared.decl.TypeDecl.{TypeDecl}
use Rattle.type_rules.specs.Fields.{fields_of}
use Rattle.type_rules.specs.Places.{type_of}
use Rattle.type_rules.specs.TypeFacts.{same}
use Rattle.rust_ast.specs.Spelled as s
use Rattle.core_ty.specs.Types as t

-- a loop around: its number, the type of its value, and whether it has a `break`
pub record Around : Type 0 where
  pub number : ℕ
  pub ty : t.Ty
  pub broken : Bool

-- what is known in a function: the declarations and signatures, how many type parameters it has, its
-- variables' types, its result, and the loops around
pub record Frame : Type 0 where
  pub decls : List TypeDecl
  pub sigs : List Sig
  pub params : ℕ
  pub types : List t.Ty
  pub result : t.Ty
  pub loops : List Around

-- a type that may stand in the function
abbrev pub Sound : Frame → t.Ty → Type 0
Sound c x = is_sound (numbers c.decls) c.params false x ≡ true

abbrev pub Same : t.Ty → t.Ty → Type 0
Same x y = same x y ≡ true

-- the type found is this one
abbrev pub Found : Option t.Ty → t.Ty → Type 0
Found None y = ⊥
Found (Some x) y = Same x y

abbrev pub loop_around : ℕ → List Around → Option Around
loop_around n [] = None
loop_around n (l ∷ ls) = if l.number == n then Some l else loop_around n ls

abbrev pub in_loop : ℕ → t.Ty → Bool → Frame → Frame
in_loop n x broken c = record {
  decls = c.decls;
  sigs = c.sigs;
  params = c.params;
  types = c.types;
  result = c.result;
  loops = record { number = n; ty = x; broken = broken } ∷ c.loops;
}

abbrev pub field_at : List TypeDecl → ℕ → ℕ → List t.Ty → ℕ → Option t.Ty
field_at ds d v args k = option_map (λ (f : List ℕ × t.Ty). substitute args f.1) (slice_get (fields_of ds d v) k)

abbrev pub part_at : List TypeDecl → t.Ty → ℕ → Option t.Ty
part_at ds (t.tuple xs) k = slice_get (t.tys_list xs) k
part_at ds (t.named d args) k = field_at ds d.0 0 (t.tys_list args) k
part_at ds x k = None

abbrev pub part_in : List TypeDecl → Option t.Ty → ℕ → Option t.Ty
part_in ds None k = None
part_in ds (Some x) k = part_at ds x k

abbrev pub content_in : Option t.Ty → Option t.Ty
content_in (Some (t.ref r m x)) = Some x
content_in o = None

abbrev pub boxed_in : Option t.Ty → Option t.Ty
boxed_in (Some (t.boxed x)) = Some x
boxed_in o = None

abbrev pub is_exclusive_reference : Option t.Ty → Bool
is_exclusive_reference (Some (t.ref r m x)) = m
is_exclusive_reference o = false

-- the type of a place
abbrev pub place_type : Frame → s.Place → Option t.Ty
place_type c (s.variable k) = slice_get c.types k
place_type c (s.field p k) = part_in c.decls (place_type c p) k
place_type c (s.unbox p) = boxed_in (place_type c p)
place_type c (s.through p) = content_in (place_type c p)
place_type c (s.through_value v) = content_in (Some (type_of v))

-- a place that may be written, as far as that rests on the reference that it goes through
abbrev pub is_exclusive : Frame → s.Place → Bool
is_exclusive c (s.variable k) = true
is_exclusive c (s.field p k) = is_exclusive c p
is_exclusive c (s.unbox p) = is_exclusive c p
is_exclusive c (s.through p) = is_exclusive_reference (place_type c p)
is_exclusive c (s.through_value v) = is_exclusive_reference (Some (type_of v))
