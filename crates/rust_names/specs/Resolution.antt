-- A program with names resolved, or the first fault of its names (LANGUAGE.md, "Names", "Limits").
use Rattle.std.specs.Prelude.{ℕ, suc, Bool, true, false, ◌||◌, if◌then◌else◌, List, [], ◌∷◌, ◌++◌, length, Option, Some, None, Result, Ok, Err, nat_lt, decimal}
use Rattle.aen_base.specs.declared.span.Span.{Span}
use Rattle.aen_base.specs.declared.limits.Which.TheVariants.{Functions, Variables}
use Rattle.rust_ast.specs.SourceTypes as s
use Rattle.rust_ast.specs.Written as w
use Rattle.rust_ast.specs.Resolved as r
use Rattle.rust_ast.specs.declared.program.Program.{Program}
use Rattle.rust_ast.specs.declared.program.Param.{Param}
use Rattle.rust_ast.specs.declared.program.Variant as variants
use Rattle.rust_ast.specs.declared.program.Struct as structs
use Rattle.rust_ast.specs.declared.program.Enum as enums
use Rattle.rust_ast.specs.declared.program.Function as functions
use Rattle.rust_ast.specs.declared.program.Item.{Item}
use Rattle.rust_ast.specs.declared.program.Item.TheVariants.{Function, Struct, Enum, UseMem}
use Rattle.rust_ast.specs.declared.program.Fields.{Fields}
use Rattle.rust_ast.specs.declared.program.Fields.TheVariants as fields
use Rattle.rust_ast.specs.declared.resolution.Resolved.{Resolved}
use Rattle.rust_ast.specs.declared.resolution.Declared.{Declared}
use Rattle.rust_ast.specs.declared.resolution.Function as resolved
use Rattle.rust_ast.specs.declared.resolution.Variable.{Variable}
use Rattle.name_tables.specs.declared.tables.Tables.{Tables}
use Rattle.name_tables.specs.declared.tables.Generics.{Generics}
use Rattle.name_tables.specs.Lookups.{and_then}
use Rattle.name_tables.specs.Tables.{names_of, tables_of, only_parameters, function_generics}
use Rattle.name_clashes.specs.Twice.{Pair, twice}
use Rattle.name_uses.specs.TypeUses.{read_type, read_maybe_type}
use Rattle.name_uses.specs.Walks.{each, each_from}
use Rattle.name_uses.specs.FunctionBodies.{function_body}
use Rattle.rust_names.specs.declared.fault.NameFault.{NameFault}
use Rattle.rust_names.specs.declared.fault.NameFault.TheVariants.{Unknown, Twice, Limit}

-- ---- declared types

-- a field without a name has its place as its name
abbrev pub placed_field : Tables → Generics → s.Written → ℕ → Result (List ℕ × w.Written) Span
placed_field t g x k = and_then (read_type t g x) (λ y. Ok (decimal k, y))

-- fields without names, the first of which has this place
abbrev pub read_placed : Tables → Generics → ℕ → List s.Written → Result (List (List ℕ × w.Written)) Span
read_placed t g k xs = each_from (placed_field t g) k xs

abbrev pub named_field : Tables → Generics → Span × List ℕ × s.Written → Result (List ℕ × w.Written) Span
named_field t g x = and_then (read_type t g x.2) (λ y. Ok (x.1, y))

abbrev pub read_named : Tables → Generics → List (Span × List ℕ × s.Written) → Result (List (List ℕ × w.Written)) Span
read_named t g xs = each (named_field t g) xs

abbrev pub read_struct_fields : Tables → Generics → Fields → Result (List (List ℕ × w.Written)) Span
read_struct_fields t g (fields.Named xs) = read_named t g xs
read_struct_fields t g (fields.Placed xs) = read_placed t g 0 xs

abbrev pub read_variant : Tables → Generics → variants.Variant → Result (List ℕ × List (List ℕ × w.Written)) Span
read_variant t g v = and_then (read_placed t g 0 v.fields) (λ fs. Ok (v.name.name, fs))

abbrev pub read_variants : Tables → Generics → List variants.Variant → Result (List (List ℕ × List (List ℕ × w.Written))) Span
read_variants t g vs = each (read_variant t g) vs

unfoldable pub read_struct : Tables → structs.Struct → Result Declared Span
read_struct t x =
    and_then (read_struct_fields t (only_parameters x.params) x.fields) (λ fs.
    Ok (record { name = x.name.name; span = x.name.span; params = names_of x.params; is_struct = true; variants = (x.name.name, fs) ∷ [] }))

-- in the types of its variants the parameters of an enum may stand
unfoldable pub enum_variants : Tables → enums.Enum → Result (List (List ℕ × List (List ℕ × w.Written))) Span
enum_variants t x = read_variants t (only_parameters x.params) x.variants

unfoldable pub read_enum : Tables → enums.Enum → Result Declared Span
read_enum t x =
    and_then (enum_variants t x) (λ vs.
    Ok (record { name = x.name.name; span = x.name.span; params = names_of x.params; is_struct = false; variants = vs }))

-- ---- functions

-- the types of parameters, from left to right
abbrev pub param_type : Tables → Generics → Param → Result w.Written Span
param_type t g x = read_type t g x.ty

abbrev pub read_params : Tables → Generics → List Param → Result (List w.Written) Span
read_params t g xs = each (param_type t g) xs

-- the types of the parameters and of the result
abbrev pub function_types : Tables → Generics → functions.Function → Result (List w.Written × w.MaybeWritten) Span
function_types t g f =
    and_then (read_params t g f.params) (λ xs.
    and_then (read_maybe_type t g (s.maybewritten f.result)) (λ y. Ok (xs, y)))

-- as code has them
abbrev pub types_form : List w.Written × Option w.Written → List w.Written × w.MaybeWritten
types_form x = (x.0, w.maybewritten x.1)

-- the types, then the body
abbrev pub function_parts : Tables → Generics → functions.Function → Result ((List w.Written × w.MaybeWritten) × (r.Block × List Variable)) Span
function_parts t g f = and_then (function_types t g f) (λ x. and_then (function_body t g f) (λ b. Ok (x, b)))

abbrev pub parts_form : (List w.Written × Option w.Written) × (r.Block × List Variable) → (List w.Written × w.MaybeWritten) × (r.Block × List Variable)
parts_form x = (types_form x.0, x.1)

abbrev pub function_of : functions.Function → (List w.Written × w.MaybeWritten) × (r.Block × List Variable) → resolved.Function
function_of f x = record {
  name = f.name.name;
  span = f.name.span;
  lifetimes = names_of f.lifetimes;
  type_params = names_of f.type_params;
  params = x.0.0;
  result = w.maybewritten_option x.0.1;
  variables = x.1.1;
  body = x.1.0;
}

unfoldable pub read_function : Tables → functions.Function → Result resolved.Function Span
read_function t f = and_then (function_parts t (function_generics f) f) (λ x. Ok (function_of f x))

-- ---- programs

abbrev pub with_type : Resolved → Declared → Resolved
with_type x d = record { types = x.types ++ d ∷ []; functions = x.functions }

abbrev pub with_function : Resolved → resolved.Function → Resolved
with_function x f = record { types = x.types; functions = x.functions ++ f ∷ [] }

abbrev pub read_item : Tables → Resolved → Item → Result Resolved Span
read_item t x (Function f) = and_then (read_function t f) (λ y. Ok (with_function x y))
read_item t x (Struct s) = and_then (read_struct t s) (λ y. Ok (with_type x y))
read_item t x (Enum e) = and_then (read_enum t e) (λ y. Ok (with_type x y))
read_item t x UseMem = Ok x

-- the items in source order, behind those before them
abbrev pub read_items : Tables → List Item → Resolved → Result Resolved Span
read_items t [] x = Ok x
read_items t (i ∷ is) x = and_then (read_item t x i) (λ y. read_items t is y)

abbrev pub no_items : Resolved
no_items = record { types = []; functions = [] }

abbrev pub count_functions : List Item → ℕ
count_functions [] = 0
count_functions (Function f ∷ is) = suc (count_functions is)
count_functions (Struct s ∷ is) = count_functions is
count_functions (Enum e ∷ is) = count_functions is
count_functions (UseMem ∷ is) = count_functions is

-- some function has more than 1,000 variables
abbrev pub has_many : List resolved.Function → Bool
has_many [] = false
has_many (f ∷ fs) = nat_lt 1000 (length f.variables) || has_many fs

abbrev pub variables_within : Result Resolved Span → Result Resolved NameFault
variables_within (Err p) = Err (Unknown p)
variables_within (Ok x) = if has_many x.functions then Err (Limit Variables 1001) else Ok x

abbrev pub unless_twice : Pair → Result Resolved NameFault → Result Resolved NameFault
unless_twice None o = o
unless_twice (Some x) o = Err (Twice x.0 x.1)

-- the limit of functions comes first, then what is declared twice, then what is declared nowhere, then
-- the limit of variables
unfoldable pub resolution : Program → Result Resolved NameFault
resolution prog =
    if nat_lt 4096 (count_functions prog.items) then Err (Limit Functions 4097)
    else unless_twice (twice prog) (variables_within (read_items (tables_of prog.items) prog.items no_items))
