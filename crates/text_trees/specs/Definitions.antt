-- What definitions and texts come to, step by step.
use Rattle.std.specs.Prelude.{ℕ, ◌+◌, List, [], ◌∷◌, ◌++◌, Result, Ok}
use Rattle.aen_base.specs.declared.span.Span.{Span}
use Rattle.pure_ast.specs.declared.def.Def.{Def}
use Rattle.pure_ast.specs.declared.def.DefKind.{DefKind}
use Rattle.pure_ast.specs.declared.def.Defs.{Defs}
use Rattle.pure_ast.specs.Code.{Code}
use Rattle.pure_ast.specs.Types.{PTy}
use Rattle.raw_ast.specs.declared.declarations.Definition.{Definition}
use Rattle.raw_ast.specs.declared.declarations.RawText.{RawText}
use Rattle.raw_ast.specs.declared.spelling.Spelling.{Spelling}
use Rattle.raw_ast.specs.Types.{RawType}
use Rattle.raw_meaning.specs.declared.outline.Outline.{Outline}
use Rattle.raw_meaning.specs.Faults.{type_names}
use Rattle.raw_meaning.specs.Outlines.{outline_of}
use Rattle.text_trees.specs.declared.definitions.Parts.{Parts}
use Rattle.text_trees.specs.declared.definitions.Signature.{Signature}
use Rattle.text_trees.specs.Codes.{code_told}
use Rattle.text_trees.specs.Declarations.{parameters_told, declarations_told}
use Rattle.text_trees.specs.Nodes.{parameter, new_definition}
use Rattle.text_trees.specs.Told.{and_then, on_ok}
use Rattle.text_trees.specs.Types.{type_told}

-- the types of parameters from place k on
abbrev pub values_told : Outline → List (List ℕ) → ℕ → List (Spelling × RawType) → Result (List PTy) Span
values_told h ps k [] = Ok []
values_told h ps k (p ∷ rest) =
    and_then (parameter k p.0) (λ u. and_then (type_told h ps p.1) (λ y. on_ok (λ ys. y ∷ ys) (values_told h ps (k + 1) rest)))

-- what a definition takes and gives, among these types
abbrev pub signature : List (List ℕ) → List PTy → PTy → Signature
signature ps xs r = record { type_parameters = ps; parameters = xs; result = r }

abbrev pub signature_told : Outline → List (List ℕ) → Definition → Result Signature Span
signature_told h types d =
    and_then (parameters_told types [] d.type_parameters) (λ ps. and_then (values_told h ps 0 d.parameters) (λ xs.
    on_ok (λ r. signature ps xs r) (type_told h ps d.result)))

abbrev pub defined : DefKind → Signature → Code → Def
defined kind s code = record { kind = kind; type_params = s.type_parameters; params = s.parameters; result = s.result; code = code }

-- among these types, after definitions of these kinds
abbrev pub definition_told : Outline → List (List ℕ) → List DefKind → Definition → Result Def Span
definition_told h types kinds d =
    and_then (new_definition h.functions kinds d.name) (λ kind. and_then (signature_told h types d) (λ s.
    on_ok (λ code. defined kind s code) (code_told h d.code)))

abbrev pub definitions_told : Outline → List (List ℕ) → List DefKind → List Definition → Result (List Def) Span
definitions_told h types kinds [] = Ok []
definitions_told h types kinds (d ∷ rest) =
    and_then (definition_told h types kinds d) (λ y. on_ok (λ ys. y ∷ ys) (definitions_told h types (kinds ++ y.kind ∷ []) rest))

abbrev pub parts_told : Outline → RawText → Result Parts Span
parts_told h text =
    and_then (declarations_told h [] [] text.types) (λ types.
    on_ok (λ defs. record { types = types; defs = defs }) (definitions_told h (type_names text.types) [] text.definitions))

abbrev pub put_together : List (List ℕ) → Parts → Defs
put_together names p = record { types = p.types; names = names; defs = p.defs }

abbrev pub text_told_in : Outline → RawText → Result Defs Span
text_told_in h text = on_ok (put_together h.functions) (parts_told h text)

abbrev pub text_told : RawText → Result Defs Span
text_told text = text_told_in (outline_of text) text
