-- Where a text as it is spelled breaks the rules beside the grammar, in the text's order (TEXT.md, "Faults").
use Rattle.std.specs.Prelude.{ℕ, suc, List, [], ◌∷◌, ◌++◌, length, map, Option, Some, None}
use Rattle.std.specs.List.{flat_map}
use Rattle.aen_base.specs.declared.span.Span.{Span}
use Rattle.pure_ast.specs.declared.def.DefKind.{DefKind}
use Rattle.raw_ast.specs.declared.computation.Computation.{Computation}
use Rattle.raw_ast.specs.declared.computation.Computation.TheVariants as K
use Rattle.raw_ast.specs.declared.declarations.Declaration.{Declaration}
use Rattle.raw_ast.specs.declared.declarations.Definition.{Definition}
use Rattle.raw_ast.specs.declared.declarations.Members.{Members}
use Rattle.raw_ast.specs.declared.declarations.Members.TheVariants as M
use Rattle.raw_ast.specs.declared.declarations.RawText.{RawText}
use Rattle.raw_ast.specs.declared.declarations.Variant.{Variant}
use Rattle.raw_ast.specs.declared.pattern.Pattern.{Pattern}
use Rattle.raw_ast.specs.declared.pattern.Pattern.TheVariants as P
use Rattle.raw_ast.specs.declared.spelling.Spelling.{Spelling}
use Rattle.raw_ast.specs.Atoms as a
use Rattle.raw_ast.specs.Atoms.{RawAtom, RawAtoms, rawatoms, rawatoms_list}
use Rattle.raw_ast.specs.Code as c
use Rattle.raw_ast.specs.Code.{RawCode, RawArms}
use Rattle.raw_ast.specs.Types as t
use Rattle.raw_ast.specs.Types.{RawType, RawTypes, rawtypes_list}
use Rattle.raw_meaning.specs.declared.outline.Outline.{Outline}
use Rattle.raw_meaning.specs.Outlines.{outline_of, kind_of}
use Rattle.raw_meaning.specs.Rules as rule

-- ---- types, in a declaration with these type parameters

abbrev mutual
  pub type_faults : Outline → List (List ℕ) → RawType → List Span
  type_faults h ps (t.integer ty) = []
  type_faults h ps t.boolean = []
  type_faults h ps t.unit = []
  type_faults h ps (t.product parts) = types_faults h ps parts
  type_faults h ps (t.named s args) = rule.type_name h ps s (length (rawtypes_list args)) ++ types_faults h ps args
  type_faults h ps (t.exit broken returned) = type_faults h ps broken ++ type_faults h ps returned

  pub types_faults : Outline → List (List ℕ) → RawTypes → List Span
  types_faults h ps t.no_rawtypes = []
  types_faults h ps (t.more_rawtypes ty rest) = type_faults h ps ty ++ types_faults h ps rest

-- ---- atoms, patterns, computations, code

abbrev mutual
  pub atom_faults : Outline → RawAtom → List Span
  atom_faults h (a.var s) = rule.variable s
  atom_faults h (a.literal s ty) = rule.number s ty
  atom_faults h (a.truth b) = []
  atom_faults h (a.tuple parts) = atoms_faults h parts
  atom_faults h (a.built name parts) = rule.constructor h name (length (rawatoms_list parts)) ++ atoms_faults h parts

  pub atoms_faults : Outline → RawAtoms → List Span
  atoms_faults h a.no_rawatoms = []
  atoms_faults h (a.more_rawatoms atom rest) = atom_faults h atom ++ atoms_faults h rest

abbrev pub variables_faults : List Spelling → List Span
variables_faults variables = flat_map rule.variable variables

abbrev pub pattern_faults : Outline → Pattern → List Span
pattern_faults h (P.Truth b) = []
pattern_faults h (P.Tuple variables) = variables_faults variables
pattern_faults h (P.Built name variables) = rule.constructor h name (length variables) ++ variables_faults variables

abbrev pub computation_faults : Outline → Computation → List Span
computation_faults h (K.Ok atom) = atom_faults h atom
computation_faults h K.Fail = []
computation_faults h (K.Call name atoms) = rule.called h name (length atoms) ++ atoms_faults h (rawatoms atoms)
computation_faults h (K.Primitive operation atoms) = rule.operation operation (length atoms) ++ atoms_faults h (rawatoms atoms)

abbrev mutual
  pub code_faults : Outline → RawCode → List Span
  code_faults h (c.bind v computation rest) = rule.variable v ++ (computation_faults h computation ++ code_faults h rest)
  code_faults h (c.put v atom rest) = rule.variable v ++ (atom_faults h atom ++ code_faults h rest)
  code_faults h (c.select atom arms) = atom_faults h atom ++ arms_faults h arms
  code_faults h (c.last computation) = computation_faults h computation

  pub arms_faults : Outline → RawArms → List Span
  arms_faults h c.no_rawarms = []
  arms_faults h (c.more_rawarms pattern code rest) = pattern_faults h pattern ++ (code_faults h code ++ arms_faults h rest)

-- ---- declarations: after types of these names and type parameters of these names

abbrev pub texts : List Spelling → List (List ℕ)
texts names = map (λ s. s.text) names

-- type parameters, after these types and the parameters before in the same declaration
abbrev pub parameters_faults : List (List ℕ) → List (List ℕ) → List Spelling → List Span
parameters_faults types before [] = []
parameters_faults types before (s ∷ rest) = rule.new_parameter types before s ++ parameters_faults types (before ++ s.text ∷ []) rest

-- variants of the type of this name, and fields of a structure, after members of these names
abbrev pub variant_faults : Outline → List ℕ → List (List ℕ) → Variant → List Span
variant_faults h ty ps v =
    flat_map (type_faults h ps) v.fields ++ (rule.variant_end ty ps v.end v.parameters ++ rule.end_names ps v.parameters)

abbrev pub variants_faults : Outline → List ℕ → List (List ℕ) → List (List ℕ) → List Variant → List Span
variants_faults h ty ps before [] = []
variants_faults h ty ps before (v ∷ rest) =
    rule.new_member before v.name ++ (variant_faults h ty ps v ++ variants_faults h ty ps (before ++ v.name.text ∷ []) rest)

abbrev pub fields_faults : Outline → List (List ℕ) → List (List ℕ) → List (Spelling × RawType) → List Span
fields_faults h ps before [] = []
fields_faults h ps before (f ∷ rest) =
    rule.new_member before f.0 ++ (type_faults h ps f.1 ++ fields_faults h ps (before ++ f.0.text ∷ []) rest)

abbrev pub members_faults : Outline → List ℕ → List (List ℕ) → Members → List Span
members_faults h ty ps (M.Variants variants) = variants_faults h ty ps [] variants
members_faults h ty ps (M.Fields fields) = fields_faults h ps [] fields

abbrev pub declaration_faults : Outline → List (List ℕ) → List (List ℕ) → Declaration → List Span
declaration_faults h types parameters d =
    rule.new_type types parameters d.name ++ (parameters_faults (types ++ d.name.text ∷ []) [] d.parameters
    ++ members_faults h d.name.text (texts d.parameters) d.members)

abbrev pub declarations_faults : Outline → List (List ℕ) → List (List ℕ) → List Declaration → List Span
declarations_faults h types parameters [] = []
declarations_faults h types parameters (d ∷ rest) =
    declaration_faults h types parameters d
    ++ declarations_faults h (types ++ d.name.text ∷ []) (parameters ++ texts d.parameters) rest

-- ---- definitions: after definitions of these kinds

-- parameters from place k on
abbrev pub values_faults : Outline → List (List ℕ) → ℕ → List (Spelling × RawType) → List Span
values_faults h ps k [] = []
values_faults h ps k (p ∷ rest) = rule.parameter k p.0 ++ (type_faults h ps p.1 ++ values_faults h ps (suc k) rest)

abbrev pub definition_faults : Outline → List (List ℕ) → List DefKind → Definition → List Span
definition_faults h types kinds d =
    rule.new_definition h.functions kinds d.name ++ (parameters_faults types [] d.type_parameters
    ++ (values_faults h (texts d.type_parameters) 0 d.parameters
    ++ (type_faults h (texts d.type_parameters) d.result ++ code_faults h d.code)))

abbrev pub and_kind : List DefKind → Option DefKind → List DefKind
and_kind kinds None = kinds
and_kind kinds (Some kind) = kinds ++ kind ∷ []

abbrev pub definitions_faults : Outline → List (List ℕ) → List DefKind → List Definition → List Span
definitions_faults h types kinds [] = []
definitions_faults h types kinds (d ∷ rest) =
    definition_faults h types kinds d ++ definitions_faults h types (and_kind kinds (kind_of h.functions d.name)) rest

-- ---- a text

abbrev pub type_names : List Declaration → List (List ℕ)
type_names types = map (λ d. d.name.text) types

abbrev pub text_faults_in : Outline → RawText → List Span
text_faults_in h text =
    declarations_faults h [] [] text.types ++ definitions_faults h (type_names text.types) [] text.definitions

abbrev pub faults : RawText → List Span
faults text = text_faults_in (outline_of text) text
