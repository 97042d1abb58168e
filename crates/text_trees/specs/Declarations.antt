-- What declarations of types come to, step by step.
use Rattle.std.specs.Prelude.{ℕ, ◌+◌, Bool, true, false, List, [], ◌∷◌, ◌++◌, Result, Ok, codes}
use Rattle.std.specs.Fmt.{decimal}
use Rattle.aen_base.specs.declared.span.Span.{Span}
use Rattle.pure_ast.specs.declared.def.PType.{PType}
use Rattle.pure_ast.specs.Types.{PTy}
use Rattle.text_meaning.specs.Lookups.{Variant as NamedFields}
use Rattle.raw_ast.specs.declared.declarations.Declaration.{Declaration}
use Rattle.raw_ast.specs.declared.declarations.Members.{Members}
use Rattle.raw_ast.specs.declared.declarations.Members.TheVariants as M
use Rattle.raw_ast.specs.declared.declarations.Variant.{Variant}
use Rattle.raw_ast.specs.declared.spelling.Spelling.{Spelling}
use Rattle.raw_ast.specs.Types.{RawType}
use Rattle.raw_meaning.specs.declared.outline.Outline.{Outline}
use Rattle.raw_meaning.specs.Faults.{texts}
use Rattle.text_trees.specs.Nodes.{new_parameter, new_member, new_type, variant_end}
use Rattle.text_trees.specs.Told.{and_then, on_ok}
use Rattle.text_trees.specs.Types.{type_told}

-- type parameters after these types and the parameters before: the names of all
abbrev pub parameters_told : List (List ℕ) → List (List ℕ) → List Spelling → Result (List (List ℕ)) Span
parameters_told types before [] = Ok before
parameters_told types before (s ∷ rest) = and_then (new_parameter types before s) (λ u. parameters_told types (before ++ s.text ∷ []) rest)

-- fields without names, from the k-th
abbrev pub numbered_told : Outline → List (List ℕ) → ℕ → List RawType → Result (List (List ℕ × PTy)) Span
numbered_told h ps k [] = Ok []
numbered_told h ps k (x ∷ rest) = and_then (type_told h ps x) (λ y. on_ok (λ ys. (codes "f" ++ decimal k, y) ∷ ys) (numbered_told h ps (k + 1) rest))

-- a variant of the type of this name
abbrev pub variant_told : Outline → List ℕ → List (List ℕ) → Variant → Result NamedFields Span
variant_told h ty ps v = and_then (numbered_told h ps 0 v.fields) (λ xs. on_ok (λ u. (v.name.text, xs)) (variant_end ty ps v.end v.parameters))

-- variants and fields after members of these names
abbrev pub variants_told : Outline → List ℕ → List (List ℕ) → List (List ℕ) → List Variant → Result (List NamedFields) Span
variants_told h ty ps before [] = Ok []
variants_told h ty ps before (v ∷ rest) =
    and_then (new_member before v.name) (λ u. and_then (variant_told h ty ps v) (λ y.
    on_ok (λ ys. y ∷ ys) (variants_told h ty ps (before ++ v.name.text ∷ []) rest)))

abbrev pub fields_told : Outline → List (List ℕ) → List (List ℕ) → List (Spelling × RawType) → Result (List (List ℕ × PTy)) Span
fields_told h ps before [] = Ok []
fields_told h ps before (f ∷ rest) =
    and_then (new_member before f.0) (λ u. and_then (type_told h ps f.1) (λ y.
    on_ok (λ ys. (f.0.text, y) ∷ ys) (fields_told h ps (before ++ f.0.text ∷ []) rest)))

abbrev pub members_told : Outline → List ℕ → List (List ℕ) → Members → Result (List NamedFields) Span
members_told h ty ps (M.Variants variants) = variants_told h ty ps [] variants
members_told h ty ps (M.Fields fields) = on_ok (λ xs. (codes "mk", xs) ∷ []) (fields_told h ps [] fields)

abbrev pub is_structure : Members → Bool
is_structure (M.Variants variants) = false
is_structure (M.Fields fields) = true

-- what a declaration declares, where its name is among these types
abbrev pub body_told : Outline → List (List ℕ) → Declaration → Result PType Span
body_told h types d =
    and_then (parameters_told types [] d.parameters) (λ ps.
    on_ok (λ vs. record { name = d.name.text; is_struct = is_structure d.members; params = ps; variants = vs }) (members_told h d.name.text ps d.members))

-- after these types and type parameters
abbrev pub declaration_told : Outline → List (List ℕ) → List (List ℕ) → Declaration → Result PType Span
declaration_told h types parameters d = and_then (new_type types parameters d.name) (λ u. body_told h (types ++ d.name.text ∷ []) d)

abbrev pub declarations_told : Outline → List (List ℕ) → List (List ℕ) → List Declaration → Result (List PType) Span
declarations_told h types parameters [] = Ok []
declarations_told h types parameters (d ∷ rest) =
    and_then (declaration_told h types parameters d) (λ y.
    on_ok (λ ys. y ∷ ys) (declarations_told h (types ++ d.name.text ∷ []) (parameters ++ texts d.parameters) rest))
