-- How the marks of type parameters are found: from each field to the types in it.
use Rattle.std.specs.Prelude.{◌≡◌, ℕ, true, Bool, List, length, Some, slice_get}
use Rattle.std.specs.List.{All}
use Rattle.aen_base.specs.declared.ids.TypeId.{TypeId}
use Rattle.core_ty.specs.declared.decl.TypeDecl.{TypeDecl}
use Rattle.core_ty.specs.declared.decl.Variant.{Variant}
use Rattle.core_ty.specs.declared.parts.Part.{Part}
use Rattle.core_ty.specs.declared.parts.Part.TheVariants.{Parameter}
use Rattle.core_ty.specs.declared.spread.Held.{Held}
use Rattle.core_ty.specs.declared.spread.Argument.{Argument}
use Rattle.core_ty.specs.Types as t
use Rattle.core_ty.specs.Containment.{Table, IsClosed, IsOf, parts, parts_of_fields, parts_of_variants}
use Rattle.core_ty.specs.Marks.{HasShape, AreSound}

abbrev pub Decls : Type 0
Decls = List TypeDecl

-- the table says of declaration d that it has this part, if the part tells something of it
abbrev pub IsIn : List TypeDecl → Table → ℕ → Part → Type 0
IsIn ds has d p = (decl : TypeDecl) → slice_get ds d ≡ Some decl → IsOf (length decl.params) p → has d p ≡ true

-- each closed table says of declaration d that it has the parts of this type
abbrev pub Holds : List TypeDecl → ℕ → t.Ty → Type 0
Holds ds d ty = (has : Table) → IsClosed ds has → All (IsIn ds has d) (parts has ty)

-- those of these fields
abbrev pub HoldsFields : List TypeDecl → ℕ → List (List ℕ × t.Ty) → Type 0
HoldsFields ds d fields = (has : Table) → IsClosed ds has → All (IsIn ds has d) (parts_of_fields has fields)

-- those of these variants
abbrev pub HoldsVariants : List TypeDecl → ℕ → List Variant → Type 0
HoldsVariants ds d variants = (has : Table) → IsClosed ds has → All (IsIn ds has d) (parts_of_variants has variants)

-- so where it says that declared type e has its type parameter k
abbrev pub Waits : List TypeDecl → TypeId → ℕ → ℕ → t.Ty → Type 0
Waits ds e k d ty = (has : Table) → IsClosed ds has → has e.0 (Parameter k) ≡ true → All (IsIn ds has d) (parts has ty)

abbrev pub IsHeld : List TypeDecl → Held → Type 0
IsHeld ds h = Holds ds h.user h.ty.now

abbrev pub IsWaiting : List TypeDecl → Argument → Type 0
IsWaiting ds a = Waits ds a.decl a.place a.user a.ty.now

-- rows of the declarations' shape, each mark of which is in each closed table
abbrev pub Fits : List TypeDecl → List (List Bool) → Type 0
Fits ds rows = HasShape ds rows × AreSound ds rows

-- what the walk knows: the marks, the types that are held, and the arguments that wait for a mark
pub record IsSpread (ds : Decls) (rows : List (List Bool)) (types : List Held) (arguments : List Argument) : Type 0 where
  pub fits : Fits ds rows
  pub held : All (IsHeld ds) types
  pub waiting : All (IsWaiting ds) arguments
