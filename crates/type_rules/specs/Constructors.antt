-- Type arguments and parts of constructors in patterns (LANGUAGE.md, "Patterns").
use Rattle.std.specs.List.{list_any}
use Rattle.std.specs.Prelude.{Bool, true, false, ℕ, ◌==◌, not, ◌&&◌, if◌then◌else◌, Option, Some, None, List, [], ◌∷◌, length}
use Rattle.core_ty.specs.Substitution.{substitute}
use Rattle.core_ty.specs.declared.decl.TypeDecl.{TypeDecl}
use Rattle.type_rules.specs.Fields.{Part, parameters_of}
use Rattle.type_rules.specs.Lists.{or_else}
use Rattle.type_rules.specs.TypeFacts.{count, same_all}
use Rattle.core_ty.specs.Types as t

abbrev pub is_not_bool : Option t.Ty → Bool
is_not_bool None = false
is_not_bool (Some t.bool) = false
is_not_bool (Some x) = true

-- the types of a tuple's parts, where it has so many
abbrev pub tuple_types : ℕ → Option t.Ty → List t.Ty
tuple_types n (Some (t.tuple xs)) = if count xs == n then t.tys_list xs else []
tuple_types n o = []

abbrev pub is_no_tuple : ℕ → Option t.Ty → Bool
is_no_tuple n None = false
is_no_tuple n (Some t.unit) = not (n == 0)
is_no_tuple n (Some (t.tuple xs)) = not (count xs == n)
is_no_tuple n (Some x) = true

-- a constructor's type arguments: those written, those of the type that is met, or none are needed
abbrev pub written_arguments : ℕ → List (List t.Ty) → Option (List t.Ty)
written_arguments n [] = None
written_arguments n (xs ∷ rest) = if length xs == n then Some xs else None

abbrev pub met_arguments : ℕ → Option t.Ty → Option (List t.Ty)
met_arguments d (Some (t.named e xs)) = if d == e.0 then Some (t.tys_list xs) else None
met_arguments d o = None

abbrev pub constructor_arguments : List TypeDecl → ℕ → List (List t.Ty) → Option t.Ty → Option (List t.Ty)
constructor_arguments ds d ls o =
    or_else (written_arguments (parameters_of ds d) ls)
    (or_else (met_arguments d o) (if parameters_of ds d == 0 then Some [] else None))

abbrev pub put_in_fields : Option (List t.Ty) → List (List ℕ × t.Ty) → List t.Ty
put_in_fields None fs = []
put_in_fields (Some args) [] = []
put_in_fields (Some args) (f ∷ fs) = substitute args f.1 ∷ put_in_fields (Some args) fs

-- a type other than this declared one with these arguments
abbrev pub is_other_declared : ℕ → Option (List t.Ty) → Option t.Ty → Bool
is_other_declared d args None = false
is_other_declared d None (Some (t.named e xs)) = not (d == e.0)
is_other_declared d (Some args) (Some (t.named e xs)) = not (d == e.0 && same_all (t.tys args) xs)
is_other_declared d args (Some x) = true

-- a written list has a wrong number of types
abbrev pub is_wrong_list : ℕ → List (List t.Ty) → Bool
is_wrong_list n ls = list_any (λ xs. not (length xs == n)) ls

-- Field: the type has no such field, or it stands twice
abbrev pub is_no_field : Part → List ℕ → Bool
is_no_field None seen = true
is_no_field (Some f) seen = list_any (λ k. k == f.0) seen

abbrev pub field_number : Part → ℕ
field_number None = 0
field_number (Some f) = f.0

abbrev pub field_type : Option (List t.Ty) → Part → Option t.Ty
field_type (Some args) (Some f) = Some (substitute args f.1)
field_type o f = None
