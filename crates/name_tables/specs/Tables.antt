-- What a program declares, as uses see it, gathered item by item (LANGUAGE.md, "Names").
use Rattle.std.specs.Prelude.{ℕ, ◌+◌, true, false, List, [], ◌∷◌, ◌++◌, length, map}
use Rattle.aen_base.specs.declared.ids.TypeId.{TypeId}
use Rattle.rust_ast.specs.declared.ident.Ident.{Ident}
use Rattle.rust_ast.specs.declared.program.Item.{Item}
use Rattle.rust_ast.specs.declared.program.Item.TheVariants.{Function, Struct, Enum, UseMem}
use Rattle.rust_ast.specs.declared.program.Fields.{Fields}
use Rattle.rust_ast.specs.declared.program.Fields.TheVariants as fields
use Rattle.rust_ast.specs.declared.program.Function as functions
use Rattle.rust_ast.specs.declared.program.Struct as structs
use Rattle.rust_ast.specs.declared.program.Enum as enums
use Rattle.rust_ast.specs.declared.program.Variant.{Variant}
use Rattle.name_tables.specs.declared.gathering.Gathered.{Gathered}
use Rattle.name_tables.specs.declared.tables.Tables.{Tables}
use Rattle.name_tables.specs.declared.tables.Generics.{Generics}
use Rattle.name_tables.specs.declared.tables.Meaning.{Meaning}
use Rattle.name_tables.specs.declared.tables.Meaning.TheVariants as means

abbrev pub names_of : List Ident → List (List ℕ)
names_of xs = map (λ (x : Ident). x.name) xs

abbrev pub variant_names : List Variant → List (List ℕ)
variant_names vs = map (λ (v : Variant). v.name.name) vs

abbrev pub to_type : ℕ → TypeId
to_type n = record { 0 = n }

-- a struct without fields is one thing, however that is written
abbrev pub struct_means : TypeId → Fields → Meaning
struct_means d (fields.Named []) = means.Empty d
struct_means d (fields.Named (x ∷ xs)) = means.Named d
struct_means d (fields.Placed []) = means.Empty d
struct_means d (fields.Placed (x ∷ xs)) = means.Placed d

-- functions are numbered in source order
abbrev pub with_function : Gathered → functions.Function → Gathered
with_function r f = record {
  types = r.types;
  values = r.values ++ record { name = f.name.name; meaning = means.Function r.functions } ∷ [];
  mem = r.mem;
  functions = r.functions + 1;
}

-- and so are declared types
abbrev pub with_struct : Gathered → structs.Struct → Gathered
with_struct r s = record {
  types = r.types ++ record { name = s.name.name; is_struct = true; variants = [] } ∷ [];
  values = r.values ++ record { name = s.name.name; meaning = struct_means (to_type (length r.types)) s.fields } ∷ [];
  mem = r.mem;
  functions = r.functions;
}

abbrev pub with_enum : Gathered → enums.Enum → Gathered
with_enum r e = record {
  types = r.types ++ record { name = e.name.name; is_struct = false; variants = variant_names e.variants } ∷ [];
  values = r.values;
  mem = r.mem;
  functions = r.functions;
}

abbrev pub with_mem : Gathered → Gathered
with_mem r = record { types = r.types; values = r.values; mem = true; functions = r.functions }

abbrev pub with_item : Gathered → Item → Gathered
with_item r (Function f) = with_function r f
with_item r (Struct s) = with_struct r s
with_item r (Enum e) = with_enum r e
with_item r UseMem = with_mem r

abbrev pub gather : List Item → Gathered → Gathered
gather [] r = r
gather (i ∷ is) r = gather is (with_item r i)

abbrev pub nothing : Gathered
nothing = record { types = []; values = []; mem = false; functions = 0 }

abbrev pub as_tables : Gathered → Tables
as_tables r = record { types = r.types; values = r.values; mem = r.mem }

abbrev pub tables_of : List Item → Tables
tables_of is = as_tables (gather is nothing)

-- ---- what an item declares for its own types

-- a declared type has no lifetimes
abbrev pub only_parameters : List Ident → Generics
only_parameters xs = record { lifetimes = []; type_params = names_of xs }

abbrev pub function_generics : functions.Function → Generics
function_generics f = record { lifetimes = names_of f.lifetimes; type_params = names_of f.type_params }
