-- How a program is printed: its tokens, with a blank after each but `.`.
use Rattle.std.specs.Prelude.{ℕ, List, [], ◌∷◌, ◌++◌, Option, Some, None, codes}
use Rattle.aen_base.specs.declared.span.Span.{Span}
use Rattle.rust_ast.specs.declared.ident.Ident.{Ident}
use Rattle.rust_ast.specs.declared.program.Program.{Program}
use Rattle.rust_ast.specs.declared.program.Item.{Item}
use Rattle.rust_ast.specs.declared.program.Item.TheVariants as items
use Rattle.rust_ast.specs.declared.program.Function.{Function}
use Rattle.rust_ast.specs.declared.program.Struct.{Struct}
use Rattle.rust_ast.specs.declared.program.Enum.{Enum}
use Rattle.rust_ast.specs.declared.program.Param.{Param}
use Rattle.rust_ast.specs.declared.program.Fields.{Fields}
use Rattle.rust_ast.specs.declared.program.Fields.TheVariants as has_fields
use Rattle.rust_ast.specs.declared.program.Variant.{Variant}
use Rattle.rust_ast.specs.SourceTypes as t
use Rattle.rust_printer.specs.ShownWords.{word_text, mut_text}
use Rattle.rust_printer.specs.ShownTypes.{type_text, types_text}
use Rattle.rust_printer.specs.ShownExpressions.{block_text}

-- each with a comma
abbrev pub names_text : List Ident → List ℕ
names_text [] = []
names_text (name ∷ names) = word_text name.name ++ (codes ", " ++ names_text names)

-- lifetimes and type parameters in angle brackets
abbrev pub generics_text : List Ident → List Ident → List ℕ
generics_text lifetimes names = codes "< " ++ (names_text lifetimes ++ (names_text names ++ codes "> "))

abbrev pub params_text : List Param → List ℕ
params_text [] = []
params_text (param ∷ params) = mut_text param.mutable ++ (word_text param.name.name ++ (codes ": " ++ (type_text param.ty ++ (codes ", " ++ params_text params))))

abbrev pub result_text : Option t.Written → List ℕ
result_text None = []
result_text (Some ty) = codes "-> " ++ type_text ty

abbrev pub function_text : Function → List ℕ
function_text f =
    codes "fn " ++ (word_text f.name.name ++ (generics_text f.lifetimes f.type_params
    ++ (codes "( " ++ (params_text f.params ++ (codes ") " ++ (result_text f.result ++ block_text f.body))))))

abbrev pub named_fields_text : List (Span × List ℕ × t.Written) → List ℕ
named_fields_text [] = []
named_fields_text (field ∷ fields) = word_text field.1 ++ (codes ": " ++ (type_text field.2 ++ (codes ", " ++ named_fields_text fields)))

abbrev pub fields_text : Fields → List ℕ
fields_text (has_fields.Named fields) = codes "{ " ++ (named_fields_text fields ++ codes "} ")
fields_text (has_fields.Placed tys) = codes "( " ++ (types_text (t.writtens tys) ++ codes ") ; ")

abbrev pub struct_text : Struct → List ℕ
struct_text x = codes "struct " ++ (word_text x.name.name ++ (generics_text [] x.params ++ fields_text x.fields))

abbrev pub variants_text : List Variant → List ℕ
variants_text [] = []
variants_text (variant ∷ variants) =
    word_text variant.name.name ++ (codes "( " ++ (types_text (t.writtens variant.fields) ++ (codes ") , " ++ variants_text variants)))

abbrev pub enum_text : Enum → List ℕ
enum_text x = codes "enum " ++ (word_text x.name.name ++ (generics_text [] x.params ++ (codes "{ " ++ (variants_text x.variants ++ codes "} "))))

abbrev pub item_text : Item → List ℕ
item_text (items.Function f) = function_text f
item_text (items.Struct x) = struct_text x
item_text (items.Enum x) = enum_text x
item_text items.UseMem = codes "use std :: mem ; "

abbrev pub items_text : List Item → List ℕ
items_text [] = []
items_text (item ∷ items) = item_text item ++ items_text items

abbrev pub shown : Program → List ℕ
shown p = items_text p.items
