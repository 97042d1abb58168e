-- The rules beside the grammar, each on one node of a text as it is spelled: where it is broken, if it is (TEXT.md, "Faults").
use Rattle.std.specs.Prelude.{◌==◌, ◌&&◌, ◌||◌, not, ℕ, Bool, true, false, if◌then◌else◌, List, [], ◌∷◌, ◌++◌, Option, Some, None, is_some, codes, bytes_eq, length}
use Rattle.aen_base.specs.declared.int_ty.IntTy.{IntTy}
use Rattle.aen_base.specs.declared.span.Span.{Span}
use Rattle.pure_ast.specs.declared.def.DefKind.{DefKind}
use Rattle.text_meaning.specs.Ranges.{arity}
use Rattle.raw_ast.specs.declared.computation.Operation.{Operation}
use Rattle.raw_ast.specs.declared.names.Constructor.{Constructor}
use Rattle.raw_ast.specs.declared.names.Constructor.TheVariants as C
use Rattle.raw_ast.specs.declared.names.DefinitionName.{DefinitionName}
use Rattle.raw_ast.specs.declared.spelling.Spelling.{Spelling}
use Rattle.raw_meaning.specs.declared.outline.Outline.{Outline}
use Rattle.raw_meaning.specs.Outlines.{is_in, kind_of}
use Rattle.raw_meaning.specs.Lookups.{type_of, constructor_of, definition_of, same_kind}
use Rattle.raw_meaning.specs.Numbers.{numbered, number_of}

-- broken there, unless this holds
abbrev pub unless : Bool → Span → List Span
unless true place = []
unless false place = place ∷ []

-- broken there, unless something is declared that has so many parts
abbrev pub unless_parts : {A : Type 0} → Option (A × ℕ) → ℕ → Span → List Span
unless_parts None count place = place ∷ []
unless_parts (Some p) count place = unless (p.1 == count) place

-- ---- numbers

-- a variable has a number
abbrev pub variable : Spelling → List Span
variable s = unless (is_some (numbered (codes "v") s.text)) s.span

-- a parameter is the variable of its place
abbrev pub is_number : Option ℕ → ℕ → Bool
is_number None k = false
is_number (Some n) k = n == k

abbrev pub parameter : ℕ → Spelling → List Span
parameter k s = unless (is_number (numbered (codes "v") s.text) k) s.span

-- a number is one of its type
abbrev pub number : Spelling → IntTy → List Span
number s t = unless (is_some (number_of s.text t)) s.span

-- a number in a definition's name, where there is one
abbrev pub name_number : List ℕ → Option Spelling → List Span
name_number prefix None = []
name_number prefix (Some s) = unless (is_some (numbered prefix s.text)) s.span

abbrev pub name_numbers : DefinitionName → List Span
name_numbers n = name_number (codes "loop") n.turn ++ name_number (codes "back") n.back

-- ---- names that are used

-- a type's name is a type parameter, which has no arguments, or a declared type's with as many arguments
abbrev pub type_name : Outline → List (List ℕ) → Spelling → ℕ → List Span
type_name h parameters s count =
    if is_in s.text parameters then unless (count == 0) s.span else unless_parts (type_of h s.text) count s.span

-- a constructor's type is declared, and has a variant of its name with as many parts
abbrev pub constructor : Outline → Constructor → ℕ → List Span
constructor h (C.Of t v) count =
    if is_some (type_of h t.text) then unless_parts (constructor_of h t.text v.text) count v.span else t.span ∷ []
constructor h (C.Brk span) count = unless (count == 1) span
constructor h (C.Ret span) count = unless (count == 1) span

-- the place of the last token of a definition's name
abbrev pub or_place : Option Spelling → Span → Span
or_place None place = place
or_place (Some s) place = s.span

abbrev pub last_place : DefinitionName → Span
last_place n = or_place n.back (or_place n.turn n.function.span)

-- a definition bears the function's name, the name's numbers are numbers, and it is declared with as many parameters
abbrev pub unless_declared : List Span → Option (ℕ × ℕ) → ℕ → Span → List Span
unless_declared [] found count place = unless_parts found count place
unless_declared (p ∷ ps) found count place = p ∷ ps

abbrev pub called : Outline → DefinitionName → ℕ → List Span
called h n count =
    if is_in n.function.text h.functions then unless_declared (name_numbers n) (definition_of h n) count (last_place n)
    else n.function.span ∷ []

-- a primitive has as many parts
abbrev pub operation : Operation → ℕ → List Span
operation o count = unless (arity o.primitive == count) o.span

-- ---- names that are declared, where these were declared before

-- a type: it is declared once, and no type parameter has its name
abbrev pub new_type : List (List ℕ) → List (List ℕ) → Spelling → List Span
new_type types parameters s = unless (not (is_in s.text types || is_in s.text parameters)) s.span

-- a type parameter: no type has its name, and it is declared once in its declaration
abbrev pub new_parameter : List (List ℕ) → List (List ℕ) → Spelling → List Span
new_parameter types parameters s = unless (not (is_in s.text types || is_in s.text parameters)) s.span

-- a variant or a field: it is declared once in its type
abbrev pub new_member : List (List ℕ) → Spelling → List Span
new_member members s = unless (not (is_in s.text members)) s.span

-- a definition: its name's numbers are numbers, and it is declared once
abbrev pub is_among : List DefKind → DefKind → Bool
is_among [] kind = false
is_among (k ∷ ks) kind = same_kind k kind || is_among ks kind

abbrev pub once : Option DefKind → List DefKind → Span → List Span
once None kinds place = []
once (Some kind) kinds place = unless (not (is_among kinds kind)) place

abbrev pub new_definition : List (List ℕ) → List DefKind → DefinitionName → List Span
new_definition functions kinds n = name_numbers n ++ once (kind_of functions n) kinds (last_place n)

-- ---- a variant's end: its type's name, with as many names after it as the type has parameters, and these are they

abbrev pub variant_end : List ℕ → List (List ℕ) → Spelling → List Spelling → List Span
variant_end ty parameters end names = unless (bytes_eq end.text ty && (length names == length parameters)) end.span

abbrev pub end_names : List (List ℕ) → List Spelling → List Span
end_names parameters [] = []
end_names [] (n ∷ names) = []
end_names (p ∷ parameters) (n ∷ names) = unless (bytes_eq p n.text) n.span ++ end_names parameters names
