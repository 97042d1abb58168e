-- What a text declares: a fold over its declarations as they are spelled (TEXT.md, "Well-formed definitions").
use Rattle.std.specs.Prelude.{ℕ, suc, if◌then◌else◌, List, [], ◌∷◌, ◌++◌, Bool, length, map, Option, Some, None, is_some, codes, bytes_eq}
use Rattle.std.specs.Option.{option_map}
use Rattle.pure_ast.specs.declared.def.DefKind.{DefKind}
use Rattle.pure_ast.specs.declared.def.DefKind.TheVariants as K
use Rattle.raw_ast.specs.declared.spelling.Spelling.{Spelling}
use Rattle.raw_ast.specs.declared.names.DefinitionName.{DefinitionName}
use Rattle.raw_ast.specs.declared.declarations.Declaration.{Declaration}
use Rattle.raw_ast.specs.declared.declarations.Definition.{Definition}
use Rattle.raw_ast.specs.declared.declarations.Members.{Members}
use Rattle.raw_ast.specs.declared.declarations.Members.TheVariants as M
use Rattle.raw_ast.specs.declared.declarations.RawText.{RawText}
use Rattle.raw_ast.specs.declared.declarations.Variant.{Variant}
use Rattle.raw_meaning.specs.declared.outline.DefinitionHead.{DefinitionHead}
use Rattle.raw_meaning.specs.declared.outline.Outline.{Outline}
use Rattle.raw_meaning.specs.declared.outline.TypeHead.{TypeHead}
use Rattle.raw_meaning.specs.declared.outline.VariantHead.{VariantHead}
use Rattle.raw_meaning.specs.Numbers.{numbered}

-- the place of a name in a list
abbrev pub place_of : List (List ℕ) → List ℕ → Option ℕ
place_of [] a = None
place_of (n ∷ ns) a = if bytes_eq n a then Some 0 else option_map (λ k. suc k) (place_of ns a)

abbrev pub is_in : List ℕ → List (List ℕ) → Bool
is_in a ns = is_some (place_of ns a)

-- ---- types

abbrev pub variant_head : Variant → VariantHead
variant_head v = record { name = v.name.text; fields = length v.fields }

-- a structure has one variant, `mk`
abbrev pub members_heads : Members → List VariantHead
members_heads (M.Variants variants) = map variant_head variants
members_heads (M.Fields fields) = record { name = codes "mk"; fields = length fields } ∷ []

abbrev pub type_head : Declaration → TypeHead
type_head d = record { name = d.name.text; parameters = length d.parameters; variants = members_heads d.members }

-- ---- functions, in the order of the first definitions that bear their names

abbrev pub with_function : List (List ℕ) → List ℕ → List (List ℕ)
with_function fs f = if is_in f fs then fs else fs ++ f ∷ []

abbrev pub functions_after : List (List ℕ) → List Definition → List (List ℕ)
functions_after fs [] = fs
functions_after fs (d ∷ ds) = functions_after (with_function fs d.name.function.text) ds

-- ---- definitions

-- the number in a part of a name, which may be left out; None where a number is none
abbrev pub part_number : List ℕ → Option Spelling → Option (Option ℕ)
part_number prefix None = Some None
part_number prefix (Some s) = option_map (λ k. Some k) (numbered prefix s.text)

abbrev pub kind_by : Option ℕ → Option (Option ℕ) → Option (Option ℕ) → Option DefKind
kind_by (Some f) (Some None) (Some None) = Some (K.Forward (record { 0 = f }))
kind_by (Some f) (Some None) (Some (Some r)) = Some (K.Back (record { 0 = f }) (record { 0 = r }))
kind_by (Some f) (Some (Some k)) (Some None) = Some (K.Loop (record { 0 = f }) (record { 0 = k }))
kind_by (Some f) (Some (Some k)) (Some (Some c)) = Some (K.LoopBack (record { 0 = f }) (record { 0 = k }) c)
kind_by _ _ _ = None

-- what a definition of this name is for, where functions are numbered so
abbrev pub kind_of : List (List ℕ) → DefinitionName → Option DefKind
kind_of fs n = kind_by (place_of fs n.function.text) (part_number (codes "loop") n.turn) (part_number (codes "back") n.back)

abbrev pub with_head : Option DefKind → ℕ → List DefinitionHead → List DefinitionHead
with_head None count heads = heads
with_head (Some kind) count heads = record { kind = kind; parameters = count } ∷ heads

abbrev pub definition_heads : List (List ℕ) → List Definition → List DefinitionHead
definition_heads fs [] = []
definition_heads fs (d ∷ ds) = with_head (kind_of fs d.name) (length d.parameters) (definition_heads fs ds)

-- ---- all

abbrev pub declared_with : List Declaration → List (List ℕ) → List Definition → Outline
declared_with types fs ds = record { types = map type_head types; functions = fs; definitions = definition_heads fs ds }

abbrev pub outline_of : RawText → Outline
outline_of text = declared_with text.types (functions_after [] text.definitions) text.definitions
