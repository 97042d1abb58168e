-- What is told of one node.
use Rattle.std.specs.Prelude.{ℕ, List, ◌++◌, Some, Result}
use Rattle.aen_base.specs.declared.int_ty.IntTy.{IntTy}
use Rattle.aen_base.specs.declared.span.Span.{Span}
use Rattle.aen_base.specs.Numbers.{Number}
use Rattle.pure_ast.specs.declared.comp.Primitive.{Primitive}
use Rattle.pure_ast.specs.declared.ctor.CtorId.{CtorId}
use Rattle.pure_ast.specs.declared.def.DefKind.{DefKind}
use Rattle.text_meaning.specs.Ranges.{arity}
use Rattle.raw_ast.specs.declared.computation.Operation.{Operation}
use Rattle.raw_ast.specs.declared.names.Constructor.{Constructor}
use Rattle.raw_ast.specs.declared.names.DefinitionName.{DefinitionName}
use Rattle.raw_ast.specs.declared.spelling.Spelling.{Spelling}
use Rattle.raw_meaning.specs.declared.outline.Outline.{Outline}
use Rattle.raw_meaning.specs.Outlines.{place_of, kind_of}
use Rattle.raw_meaning.specs.Lookups.{type_of, definition_of}
use Rattle.raw_meaning.specs.Numbers.{number_of}
use Rattle.raw_meaning.specs.Rules as rule
use Rattle.raw_meaning.specs.Trees.{variable_number, constructor_id, with_parts}
use Rattle.text_names.specs.declared.name_rules.TypeName.{TypeName}
use Rattle.text_names.specs.NamedTypes.{type_named}
use Rattle.text_trees.specs.Told.{told, kept}

unfoldable pub variable : Spelling → Result ℕ Span
variable s = told (rule.variable s) (variable_number s)

unfoldable pub number : Spelling → IntTy → Result Number Span
number s t = told (rule.number s t) (number_of s.text t)

-- a type's name with so many arguments
unfoldable pub type_name : Outline → List (List ℕ) → Spelling → ℕ → Result TypeName Span
type_name h ps s count = told (rule.type_name h ps s count) (type_named (place_of ps s.text) (type_of h s.text) count)

-- a constructor, a definition and a primitive with so many parts
unfoldable pub constructor : Outline → Constructor → ℕ → Result CtorId Span
constructor h name count = told (rule.constructor h name count) (constructor_id h name count)

unfoldable pub called : Outline → DefinitionName → ℕ → Result ℕ Span
called h name count = told (rule.called h name count) (with_parts (definition_of h name) count)

unfoldable pub operation : Operation → ℕ → Result Primitive Span
operation o count = told (rule.operation o count) (with_parts (Some (o.primitive, arity o.primitive)) count)

-- a definition's name after definitions of these kinds
unfoldable pub new_definition : List (List ℕ) → List DefKind → DefinitionName → Result DefKind Span
new_definition functions kinds name = told (rule.new_definition functions kinds name) (kind_of functions name)

-- ---- nodes without a value

unfoldable pub parameter : ℕ → Spelling → Result Unit Span
parameter k s = kept (rule.parameter k s)

unfoldable pub new_type : List (List ℕ) → List (List ℕ) → Spelling → Result Unit Span
new_type types parameters s = kept (rule.new_type types parameters s)

unfoldable pub new_parameter : List (List ℕ) → List (List ℕ) → Spelling → Result Unit Span
new_parameter types parameters s = kept (rule.new_parameter types parameters s)

unfoldable pub new_member : List (List ℕ) → Spelling → Result Unit Span
new_member members s = kept (rule.new_member members s)

-- a variant's end and the names after it
unfoldable pub variant_end : List ℕ → List (List ℕ) → Spelling → List Spelling → Result Unit Span
variant_end ty parameters end names = kept (rule.variant_end ty parameters end names ++ rule.end_names parameters names)
