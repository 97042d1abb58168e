-- What a text declares is what the definitions declare that it stands for.
use Rattle.std.specs.Prelude.{◌≡◌, refl, ℕ, suc, List, [], ◌∷◌, length, map, Some, codes}
use Rattle.std.proofs.Common.{ap, sym, ◌∙◌, subst}
use Rattle.pure_ast.specs.declared.def.Def.{Def}
use Rattle.pure_ast.specs.declared.def.DefKind.{DefKind}
use Rattle.pure_ast.specs.declared.def.Defs.{Defs}
use Rattle.pure_ast.specs.declared.def.PType.{PType}
use Rattle.pure_ast.specs.Code.{Code}
use Rattle.pure_ast.specs.Types.{PTy}
use Rattle.text_meaning.specs.Lookups.{Variant as NamedFields}
use Rattle.raw_ast.specs.declared.declarations.Declaration.{Declaration}
use Rattle.raw_ast.specs.declared.declarations.Definition.{Definition}
use Rattle.raw_ast.specs.declared.declarations.Members.{Members}
use Rattle.raw_ast.specs.declared.declarations.Members.TheVariants as M
use Rattle.raw_ast.specs.declared.declarations.RawText.{RawText}
use Rattle.raw_ast.specs.declared.declarations.Variant.{Variant}
use Rattle.raw_ast.specs.declared.spelling.Spelling.{Spelling}
use Rattle.raw_ast.specs.Types.{RawType}
use Rattle.raw_meaning.specs.declared.outline.Outline.{Outline}
use Rattle.raw_meaning.specs.Faults.{texts}
use Rattle.raw_meaning.specs.Heads.{declared_by, head_of_type, head_of_variant, head_of_definition}
use Rattle.raw_meaning.specs.OptionLemmas.{some_so, mapped_made, both_made, four_made, each_same, each_length}
use Rattle.raw_meaning.specs.Outlines.{kind_of, type_head, variant_head, members_heads, with_head, definition_heads, outline_of}
use Rattle.raw_meaning.specs.Trees.{each, type_tree, numbered_fields, variant_tree, field_tree, members_trees, is_structure, declaration_tree, defined, parameter_types, definition_tree, code_tree, definitions}

numbered_length : (k : ℕ) (xs : List PTy) → length (numbered_fields k xs) ≡ length xs
numbered_length k [] = refl
numbered_length k (x ∷ xs) = ap (λ n. suc n) (numbered_length (suc k) xs)

texts_length : (ss : List Spelling) → length (texts ss) ≡ length ss
texts_length [] = refl
texts_length (s ∷ ss) = ap (λ n. suc n) (texts_length ss)

variant_headed : (h : Outline) (ps : List (List ℕ)) (v : Variant) (x : NamedFields) → variant_tree h ps v ≡ Some x → head_of_variant x ≡ variant_head v
variant_headed h ps v x e =
    let m = mapped_made (λ (xs : List PTy). (v.name.text, numbered_fields 0 xs)) (each (type_tree h ps) v.fields) x e in
    subst (λ (x : NamedFields). head_of_variant x ≡ variant_head v) m.2
    (λ i. record { name = v.name.text; fields = (numbered_length 0 m.0 ∙ each_length (type_tree h ps) v.fields m.0 m.1) i })

members_headed : (h : Outline) (ps : List (List ℕ)) (m : Members) (vs : List NamedFields) → members_trees h ps m ≡ Some vs → map head_of_variant vs ≡ members_heads m
members_headed h ps (M.Variants variants) vs e = each_same (variant_tree h ps) head_of_variant variant_head (variant_headed h ps) variants vs e
members_headed h ps (M.Fields fields) vs e =
    let m = mapped_made (λ (xs : List (List ℕ × PTy)). (codes "mk", xs) ∷ []) (each (field_tree h ps) fields) vs e in
    subst (λ (vs : List NamedFields). map head_of_variant vs ≡ members_heads (M.Fields fields)) m.2
    (λ i. record { name = codes "mk"; fields = each_length (field_tree h ps) fields m.0 m.1 i } ∷ [])

type_headed : (h : Outline) (d : Declaration) (t : PType) → declaration_tree h d ≡ Some t → head_of_type t ≡ type_head d
type_headed h d t e =
    let make : List NamedFields → PType = λ vs. record { name = d.name.text; is_struct = is_structure d.members; params = texts d.parameters; variants = vs } in
    let m = mapped_made make (members_trees h (texts d.parameters) d.members) t e in
    subst (λ (t : PType). head_of_type t ≡ type_head d) m.2
    (λ i. record { name = d.name.text; parameters = texts_length d.parameters i; variants = members_headed h (texts d.parameters) d.members m.0 m.1 i })

definition_headed : (h : Outline) (d : Definition) (x : Def) → definition_tree h d ≡ Some x →
    (kind_of h.functions d.name ≡ Some x.kind) × (length x.params ≡ length d.parameters)
definition_headed h d x e =
    let ps = texts d.type_parameters in
    let m = four_made (λ (kind : DefKind) (xs : List PTy) (r : PTy) (b : Code). defined kind ps xs r b) (kind_of h.functions d.name)
    (parameter_types h ps d.parameters) (type_tree h ps d.result) (code_tree h d.code) x e in
    subst (λ (x : Def). (kind_of h.functions d.name ≡ Some x.kind) × (length x.params ≡ length d.parameters)) m.rest.is
    (m.is_first, each_length (λ (p : Spelling × RawType). type_tree h ps p.1) d.parameters m.rest.first m.rest.is_first)

definitions_headed : (h : Outline) (ds : List Definition) (xs : List Def) → each (definition_tree h) ds ≡ Some xs → map head_of_definition xs ≡ definition_heads h.functions ds
definitions_headed h [] xs e = some_so (λ xs. map head_of_definition xs ≡ []) [] xs e refl
definitions_headed h (d ∷ ds) xs e =
    let m = both_made (λ y ys. y ∷ ys) (definition_tree h d) (each (definition_tree h) ds) xs e in
    let r = definition_headed h d m.first m.is_first in
    subst (λ xs. map head_of_definition xs ≡ definition_heads h.functions (d ∷ ds)) m.is
    ((λ i. record { kind = m.first.kind; parameters = r.1 i } ∷ definitions_headed h ds m.second m.is_second i)
    ∙ sym (ap (λ o. with_head o (length d.parameters) (definition_heads h.functions ds)) r.0))

-- the definitions that a text stands for declare what it declares
pub declared : (text : RawText) (d : Defs) → definitions text ≡ Some d → declared_by d ≡ outline_of text
declared text d e =
    let h = outline_of text in
    let m = both_made (λ (types : List PType) (ds : List Def). record { types = types; names = h.functions; defs = ds }) (each (declaration_tree h) text.types) (each (definition_tree h) text.definitions) d e in
    subst (λ (d : Defs). declared_by d ≡ h) m.is
    (λ i. record {
      types = each_same (declaration_tree h) head_of_type type_head (type_headed h) text.types m.first m.is_first i;
      functions = h.functions;
      definitions = definitions_headed h text.definitions m.second m.is_second i;
    })
