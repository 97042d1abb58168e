-- What productions make of the values of their symbols (TEXT.md, "Grammar").
use Rattle.std.specs.Prelude.{List, [], ◌∷◌, Option, Some, None}
use Rattle.aen_base.specs.declared.operators.Builtin.{Builtin}
use Rattle.aen_base.specs.declared.operators.Builtin.TheVariants.{BoxNew, Replace, Swap}
use Rattle.pure_ast.specs.declared.comp.Primitive.{Primitive}
use Rattle.pure_ast.specs.declared.comp.Primitive.TheVariants as P
use Rattle.text_table.specs.declared.lexeme.Lexeme.{Lexeme}
use Rattle.raw_ast.specs.declared.spelling.Spelling.{Spelling}
use Rattle.raw_ast.specs.declared.names.DefinitionName.{DefinitionName}
use Rattle.raw_ast.specs.declared.names.Constructor.{Constructor}
use Rattle.raw_ast.specs.declared.names.Constructor.TheVariants as K
use Rattle.raw_ast.specs.declared.pattern.Pattern.{Pattern}
use Rattle.raw_ast.specs.declared.pattern.Pattern.TheVariants as pattern
use Rattle.raw_ast.specs.declared.computation.Operation.{Operation}
use Rattle.raw_ast.specs.declared.computation.Computation.{Computation}
use Rattle.raw_ast.specs.declared.computation.Computation.TheVariants as computation
use Rattle.raw_ast.specs.declared.declarations.Variant.{Variant}
use Rattle.raw_ast.specs.declared.declarations.Members.TheVariants as members
use Rattle.raw_ast.specs.declared.declarations.Declaration.{Declaration}
use Rattle.raw_ast.specs.declared.declarations.Definition.{Definition}
use Rattle.raw_ast.specs.declared.declarations.RawText.{RawText}
use Rattle.raw_ast.specs.Types as t
use Rattle.raw_ast.specs.Types.{RawType}
use Rattle.raw_ast.specs.Atoms as a
use Rattle.raw_ast.specs.Atoms.{RawAtom}
use Rattle.raw_ast.specs.Code as code
use Rattle.raw_ast.specs.Code.{RawCode}
use Rattle.raw_ways.specs.Words.{int_of, is_true, int_primitive, bool_primitive}
use Rattle.raw_values.specs.declared.rests.AfterTypeName.{AfterTypeName}
use Rattle.raw_values.specs.declared.rests.AfterTypeName.TheVariants as after_type
use Rattle.raw_values.specs.declared.rests.VariantRest.{VariantRest}
use Rattle.raw_values.specs.declared.rests.AfterName.{AfterName}
use Rattle.raw_values.specs.declared.rests.AfterName.TheVariants as after
use Rattle.raw_values.specs.declared.rests.NameEnd.{NameEnd}
use Rattle.raw_values.specs.declared.rests.AfterConstructor.{AfterConstructor}
use Rattle.raw_values.specs.declared.rests.AfterConstructor.TheVariants as after_constructor
use Rattle.raw_values.specs.declared.rests.Bound.{Bound}
use Rattle.raw_values.specs.declared.rests.Bound.TheVariants as bound

abbrev pub nothing : Unit {0}
nothing = tt

-- a name, a variable or a number as it is spelled
abbrev pub spelled : Lexeme → Spelling
spelled l = record { text = l.text; span = l.span }

-- ---- types

abbrev pub int_type : Lexeme → RawType
int_type word = t.integer (int_of word.class)

abbrev pub bool_type : RawType
bool_type = t.boolean

abbrev pub unit_type : RawType
unit_type = t.unit

abbrev pub named_alone : Lexeme → RawType
named_alone name = t.named (spelled name) (t.rawtypes [])

abbrev pub product_type : RawType → RawType → List RawType → RawType
product_type ty second more = t.product (t.rawtypes (ty ∷ second ∷ more))

abbrev pub exit_type : RawType → RawType → RawType
exit_type broken returned = t.exit broken returned

abbrev pub type_arguments : List RawType → AfterTypeName
type_arguments args = after_type.Arguments args

abbrev pub more_factors : List RawType → AfterTypeName
more_factors factors = after_type.Factors factors

abbrev pub after_name : Lexeme → AfterTypeName → RawType
after_name name (after_type.Arguments args) = t.named (spelled name) (t.rawtypes args)
after_name name (after_type.Factors factors) = t.product (t.rawtypes (named_alone name ∷ factors))

-- ---- declarations

abbrev pub text : List Declaration → List Definition → RawText
text types definitions = record { types = types; definitions = definitions }

abbrev pub inductive : Lexeme → List Spelling → List Variant → Declaration
inductive name parameters variants = record { name = spelled name; parameters = parameters; members = members.Variants variants }

abbrev pub structure : Lexeme → List Spelling → List (Spelling × RawType) → Declaration
structure name parameters fields = record { name = spelled name; parameters = parameters; members = members.Fields fields }

abbrev pub variant : Lexeme → VariantRest → Variant
variant name rest = record { name = spelled name; fields = rest.fields; end = rest.end; parameters = rest.parameters }

abbrev pub field_first : RawType → VariantRest → VariantRest
field_first ty rest = record { fields = ty ∷ rest.fields; end = rest.end; parameters = rest.parameters }

abbrev pub name_first : Lexeme → AfterName → VariantRest
name_first name (after.Fields rest) = field_first (named_alone name) rest
name_first name (after.Parameters names) = record { fields = []; end = spelled name; parameters = names }

abbrev pub ended : AfterName
ended = after.Parameters []

abbrev pub more_fields : VariantRest → AfterName
more_fields rest = after.Fields rest

abbrev pub end_parameters : List Spelling → AfterName
end_parameters names = after.Parameters names

abbrev pub field : Lexeme → RawType → Spelling × RawType
field name ty = (spelled name, ty)

-- ---- definitions

abbrev pub definition : DefinitionName → List Spelling → List (Spelling × RawType) → RawType → RawCode → Definition
definition name type_parameters parameters result code =
    record { name = name; type_parameters = type_parameters; parameters = parameters; result = result; code = code }

abbrev pub definition_name : Lexeme → NameEnd → DefinitionName
definition_name name end = record { function = spelled name; turn = end.turn; back = end.back }

abbrev pub no_end : NameEnd
no_end = record { turn = None; back = None }

abbrev pub loop_end : Lexeme → Option Spelling → NameEnd
loop_end turn back = record { turn = Some (spelled turn); back = back }

abbrev pub back_end : Lexeme → NameEnd
back_end back = record { turn = None; back = Some (spelled back) }

abbrev pub no_back : Option Spelling
no_back = None

abbrev pub some_back : Lexeme → Option Spelling
some_back back = Some (spelled back)

-- ---- code

abbrev pub let_code : Lexeme → Bound → RawCode
let_code variable (bound.Computation c rest) = code.bind (spelled variable) c rest
let_code variable (bound.Atom atom rest) = code.put (spelled variable) atom rest

abbrev pub match_code : RawAtom → List (Pattern × RawCode) → RawCode
match_code atom arms = code.select atom (code.rawarms arms)

abbrev pub last_code : Computation → RawCode
last_code c = code.last c

abbrev pub bound_computation : Computation → RawCode → Bound
bound_computation c rest = bound.Computation c rest

abbrev pub bound_atom : RawAtom → RawCode → Bound
bound_atom atom rest = bound.Atom atom rest

abbrev pub arm : Pattern → RawCode → Pattern × RawCode
arm p c = (p, c)

abbrev pub truth_pattern : Lexeme → Pattern
truth_pattern word = pattern.Truth (is_true word.class)

abbrev pub tuple_pattern : Lexeme → Lexeme → List Spelling → Pattern
tuple_pattern first second more = pattern.Tuple (spelled first ∷ spelled second ∷ more)

abbrev pub built_pattern : Constructor → List Spelling → Pattern
built_pattern name variables = pattern.Built name variables

abbrev pub gives : RawAtom → Computation
gives atom = computation.Ok atom

abbrev pub fails : Computation
fails = computation.Fail

abbrev pub calls : DefinitionName → List RawAtom → Computation
calls name atoms = computation.Call name atoms

abbrev pub operates : Operation → List RawAtom → Computation
operates operation atoms = computation.Primitive operation atoms

-- ---- primitives

abbrev pub operation : Primitive → Lexeme → Operation
operation p last = record { primitive = p; span = last.span }

abbrev pub int_operation : Lexeme → Lexeme → Operation
int_operation ty operator = operation (int_primitive (int_of ty.class) operator.class) operator

abbrev pub bool_operation : Lexeme → Operation
bool_operation operator = operation (bool_primitive operator.class) operator

abbrev pub cast_operation : Lexeme → Lexeme → Operation
cast_operation from to = operation (P.Cast (int_of from.class) (int_of to.class)) to

abbrev pub bool_cast : Lexeme → Operation
bool_cast to = operation (P.CastBool (int_of to.class)) to

abbrev pub box_new : Lexeme → Operation
box_new word = operation (P.Forward BoxNew) word

-- a function of memory, or what follows it
abbrev pub in_memory : Builtin → Lexeme → Option Operation → Operation
in_memory b word None = operation (P.Forward b) word
in_memory b word (Some back) = back

abbrev pub replace_operation : Lexeme → Option Operation → Operation
replace_operation word end = in_memory Replace word end

abbrev pub swap_operation : Lexeme → Option Operation → Operation
swap_operation word end = in_memory Swap word end

abbrev pub replace_back : Lexeme → Operation
replace_back word = operation (P.Back Replace (record { 0 = 0 })) word

abbrev pub swap_back0 : Lexeme → Operation
swap_back0 word = operation (P.Back Swap (record { 0 = 0 })) word

abbrev pub swap_back1 : Lexeme → Operation
swap_back1 word = operation (P.Back Swap (record { 0 = 1 })) word

abbrev pub no_operation : Option Operation
no_operation = None

abbrev pub some_operation : Operation → Option Operation
some_operation o = Some o

-- ---- atoms

abbrev pub variable_atom : Lexeme → RawAtom
variable_atom name = a.var (spelled name)

abbrev pub number_atom : Lexeme → Lexeme → RawAtom
number_atom number ty = a.literal (spelled number) (int_of ty.class)

abbrev pub truth_atom : Lexeme → RawAtom
truth_atom word = a.truth (is_true word.class)

abbrev pub unit_atom : RawAtom
unit_atom = a.tuple (a.rawatoms [])

abbrev pub lone : Constructor → RawAtom
lone name = a.built name (a.rawatoms [])

abbrev pub tuple_atom : RawAtom → RawAtom → List RawAtom → RawAtom
tuple_atom first second more = a.tuple (a.rawatoms (first ∷ second ∷ more))

abbrev pub constructor_arguments : List RawAtom → AfterConstructor
constructor_arguments args = after_constructor.Arguments args

abbrev pub more_parts : List RawAtom → AfterConstructor
more_parts parts = after_constructor.Parts parts

abbrev pub bracketed : Constructor → AfterConstructor → RawAtom
bracketed name (after_constructor.Arguments args) = a.built name (a.rawatoms args)
bracketed name (after_constructor.Parts parts) = a.tuple (a.rawatoms (lone name ∷ parts))

abbrev pub variant_name : Lexeme → Lexeme → Constructor
variant_name ty name = K.Of (spelled ty) (spelled name)

abbrev pub brk : Lexeme → Constructor
brk word = K.Brk word.span

abbrev pub ret : Lexeme → Constructor
ret word = K.Ret word.span
