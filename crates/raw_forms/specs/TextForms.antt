-- Texts in which no rule is broken stand for well-formed definitions.
use Rattle.std.proofs.Common.{◌≡◌, refl, ap, sym, subst, ◌∙◌, ℕ, List, [], length, map, Some}
use Rattle.pure_ast.specs.declared.def.Def.{Def}
use Rattle.pure_ast.specs.declared.def.Defs.{Defs}
use Rattle.pure_ast.specs.declared.def.PType.{PType}
use Rattle.text_meaning.specs.Lists.{Differ}
use Rattle.text_meaning.specs.Names.{IsName}
use Rattle.text_meaning.specs.WellFormedTypes.{AreNames, type_names as names_in}
use Rattle.raw_ast.specs.declared.declarations.Declaration.{Declaration}
use Rattle.raw_ast.specs.declared.declarations.RawText.{RawText}
use Rattle.raw_meaning.specs.declared.outline.DefinitionHead.{DefinitionHead}
use Rattle.raw_meaning.specs.declared.outline.Outline.{Outline}
use Rattle.raw_meaning.specs.declared.outline.TypeHead.{TypeHead}
use Rattle.raw_meaning.specs.Faults.{declarations_faults, definitions_faults, type_names}
use Rattle.raw_meaning.specs.HeadLemmas.{declared}
use Rattle.raw_meaning.specs.Heads.{declared_by, head_of_type, head_of_definition}
use Rattle.raw_meaning.specs.Named.{IsNamedDeclaration}
use Rattle.raw_meaning.specs.OptionLemmas.{none_left, none_right}
use Rattle.raw_meaning.specs.Outlines.{type_head, definition_heads, outline_of}
use Rattle.raw_meaning.specs.Trees.{both, definitions}
use Rattle.raw_forms.specs.Formed.{TypesAreFormed, CodesAreFormed, TextsAreFormed}
use Rattle.raw_forms.specs.Codes.{code_formed}
use Rattle.raw_forms.specs.Declarations.{types_differ, declarations_formed}
use Rattle.raw_forms.specs.Definitions.{each_kind, definitions_formed}
use Rattle.raw_forms.specs.FunctionOrder.{functions_known, functions_named, AreHeadsInOrder, order_of_heads, heads_in_order}
use Rattle.raw_forms.specs.Kinds.{kinds_in, kinds_differ}
use Rattle.raw_forms.specs.Lists.{each_so, each_mapped, map_twice}
use Rattle.raw_forms.specs.Types.{type_formed}

abbrev head_name : TypeHead → List ℕ
head_name t = t.name

-- definitions that declare what a text declares have types of the same names
same_names : (text : RawText) (d : Defs) → declared_by d ≡ outline_of text → names_in d ≡ type_names text.types
same_names text d same =
    sym (map_twice head_name head_of_type d.types) ∙ ap (λ (h : Outline). map head_name h.types) same ∙ map_twice head_name type_head text.types

formed_of : TypesAreFormed → CodesAreFormed → TextsAreFormed
formed_of typed coded text s n e =
    let h = outline_of text in
    let names = type_names text.types in
    let one = declarations_faults h [] [] text.types in
    let two = definitions_faults h names [] text.definitions in
    let first = none_left one two e in
    let second = none_right one two e in
    let functions = functions_known [] h.functions text.definitions refl in
    let ts = declarations_formed h typed names (same_names text) text.types refl s.0 n.0 first in
    let ds = definitions_formed h typed coded names (same_names text) [] text.definitions s.1 n.1 functions second in
    let tree : Defs = record { types = ts.tree; names = h.functions; defs = ds.tree } in
    let is : definitions text ≡ Some tree =
    λ i. both (λ (types : List PType) (ds : List Def). record { types = types; names = h.functions; defs = ds }) (ts.is i) (ds.is i) in
    let same = declared text tree is in
    let heads : definition_heads h.functions text.definitions ≡ map head_of_definition ds.tree = sym (ap (λ (z : Outline). z.definitions) same) in
    let kinds : kinds_in (definition_heads h.functions text.definitions) ≡ map (λ (d : Def). d.kind) ds.tree =
    ap kinds_in heads ∙ map_twice (λ (x : DefinitionHead). x.kind) head_of_definition ds.tree in
    let order = heads_in_order h.functions [] text.definitions refl (each_kind h names [] text.definitions functions second) in
    let named = each_so IsNamedDeclaration (λ d. IsName d.name.text) (λ d r. r.name) text.types n.0 in
    record {
      tree = tree;
      is = is;
      well_formed = record {
        types_named = subst AreNames (sym (same_names text tree same))
            (each_mapped IsName (λ (d : Declaration). d.name.text) text.types named, types_differ h [] [] text.types tt first);
        types = ts.fits tree same;
        functions_named = functions_named [] text.definitions (tt, tt) n.1;
        order = order_of_heads 0 ds.tree (length h.functions) (subst (λ x. AreHeadsInOrder 0 x (length h.functions)) heads order);
        kinds = subst Differ kinds (kinds_differ h names [] text.definitions tt second);
        definitions = ds.fits tree same;
      };
    }

pub text_formed : TextsAreFormed
text_formed text s n e = formed_of (λ h ps t s e. type_formed h ps t s e) (λ h x s e. code_formed h x s e) text s n e
