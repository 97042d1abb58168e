-- What a name or a path means, as a declared type, a function, a constructor or a variant; or the place
-- of the name that is declared nowhere (LANGUAGE.md, "Names").
use Rattle.std.specs.Prelude.{ℕ, Bool, ◌||◌, if◌then◌else◌, List, map, slice_get, Option, Some, None, option_map, Result, Ok, Err}
use Rattle.std.specs.Option.{option_and_then}
use Rattle.aen_base.specs.declared.span.Span.{Span}
use Rattle.aen_base.specs.declared.ids.TypeId.{TypeId}
use Rattle.rust_ast.specs.declared.ident.Ident.{Ident}
use Rattle.name_tables.specs.declared.tables.Tables.{Tables}
use Rattle.name_tables.specs.declared.tables.Generics.{Generics}
use Rattle.name_tables.specs.declared.tables.TypeNames.{TypeNames}
use Rattle.name_tables.specs.declared.tables.ValueNames.{ValueNames}
use Rattle.name_tables.specs.declared.tables.Meaning.{Meaning}
use Rattle.name_tables.specs.declared.tables.Meaning.TheVariants as means
use Rattle.name_tables.specs.declared.lookups.TypeMeaning.{TypeMeaning}
use Rattle.name_tables.specs.declared.lookups.TypeMeaning.TheVariants.{Parameter, Declared}
use Rattle.name_tables.specs.Finding.{find, place_of}
use Rattle.name_tables.specs.Tables.{to_type}

-- an answer, or the place of the first use that is declared nowhere
abbrev pub and_then : {A B : Type 0} → Result A Span → (A → Result B Span) → Result B Span
and_then (Ok x) f = f x
and_then (Err s) f = Err s

abbrev pub known : {A : Type 0} → Span → Option A → Result A Span
known s None = Err s
known s (Some x) = Ok x

-- ---- types: a type parameter or a declared type

abbrev pub parameter_or : Option ℕ → Option ℕ → Option TypeMeaning
parameter_or None o = option_map (λ d. Declared (to_type d)) o
parameter_or (Some k) o = Some (Parameter k)

abbrev pub type_names : Tables → List (List ℕ)
type_names t = map (λ (x : TypeNames). x.name) t.types

abbrev pub type_meaning : Tables → Generics → Ident → Result TypeMeaning Span
type_meaning t g i = known i.span (parameter_or (place_of g.type_params i.name) (place_of (type_names t) i.name))

-- ---- constructors

abbrev pub meaning_of : List ValueNames → List ℕ → Option Meaning
meaning_of vs w = option_map (λ r. r.1.meaning) (find (λ (v : ValueNames). v.name) vs w)

abbrev pub as_empty : Meaning → Option TypeId
as_empty (means.Function f) = None
as_empty (means.Empty d) = Some d
as_empty (means.Placed d) = None
as_empty (means.Named d) = None

-- a name alone in a pattern is a struct's pattern where the first function or struct of this name is a
-- struct without fields
abbrev pub empty_struct : List ValueNames → List ℕ → Option TypeId
empty_struct vs w = option_and_then as_empty (meaning_of vs w)

abbrev pub as_constructor : Meaning → Option TypeId
as_constructor (means.Function f) = None
as_constructor (means.Empty d) = Some d
as_constructor (means.Placed d) = Some d
as_constructor (means.Named d) = None

-- the struct with this constructor
abbrev pub constructor_of : List ValueNames → List ℕ → Option TypeId
constructor_of vs w = option_and_then as_constructor (meaning_of vs w)

abbrev pub variant_at : TypeId → List ℕ → Option TypeNames → Option (TypeId × ℕ)
variant_at d w None = None
variant_at d w (Some x) = option_map (λ v. (d, v)) (place_of x.variants w)

-- a variant of an enum, by its place; neither a struct nor a type parameter has one
abbrev pub variant_of : Tables → TypeMeaning → List ℕ → Option (TypeId × ℕ)
variant_of t (Parameter k) w = None
variant_of t (Declared d) w = variant_at d w (slice_get t.types d.0)

-- the struct of this name, which braces follow
abbrev pub if_struct : ℕ × TypeNames → Option TypeId
if_struct r = if r.1.is_struct then Some (to_type r.0) else None

abbrev pub struct_of : Tables → List ℕ → Option TypeId
struct_of t w = option_and_then if_struct (find (λ (x : TypeNames). x.name) t.types w)

-- ---- the built-ins' paths

-- where one stands that isn't called, it means nothing
abbrev pub uncalled_place : Tables → Span → Span → Bool → Span
uncalled_place t path mem std = if std || t.mem then path else mem

-- `mem` by itself needs the `use`: else it is what is declared nowhere
abbrev pub swap_place : Tables → Span → Span → Bool → Result Span Span
swap_place t path mem std = if std || t.mem then Ok path else Err mem
