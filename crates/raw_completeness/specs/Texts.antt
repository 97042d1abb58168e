-- The lexemes of a text of well-formed definitions are read as a text that stands for them and breaks no rule (TEXT.md, "Reading").
use Rattle.std.proofs.Common.{◌≡◌, refl, ◌∙◌, ℕ, zero, suc, List, [], ◌∷◌, ◌++◌, map, Some}
use Rattle.std.specs.Prelude.{codes, slice_get}
use Rattle.std.specs.List.{flat_map}
use Rattle.pure_ast.specs.declared.def.Def.{Def}
use Rattle.pure_ast.specs.declared.def.Defs.{Defs}
use Rattle.pure_ast.specs.declared.def.PType.{PType}
use Rattle.text_meaning.specs.Lists.{Each}
use Rattle.text_meaning.specs.Spelled.{type_declaration, definition, tokens_of}
use Rattle.text_meaning.specs.Tokens.{word}
use Rattle.text_meaning.specs.WellFormed.{IsWellFormed}
use Rattle.text_table.specs.declared.part.Part.TheVariants as N
use Rattle.text_table.specs.declared.terminal.Terminal.TheVariants as T
use Rattle.raw_ast.specs.declared.declarations.Declaration.{Declaration}
use Rattle.raw_ast.specs.declared.declarations.Definition.{Definition}
use Rattle.raw_ast.specs.declared.declarations.RawText.{RawText}
use Rattle.raw_meaning.specs.Faults.{type_names, faults, text_faults_in}
use Rattle.raw_meaning.specs.Heads.{declared_by}
use Rattle.raw_meaning.specs.Outlines.{outline_of}
use Rattle.raw_meaning.specs.Trees.{definitions, definitions_in, declaration_tree, definition_tree, each, both}
use Rattle.raw_completeness.specs.Declarations.{IsDeclarationOf, declarations_read, declarations_keep}
use Rattle.raw_completeness.specs.Definitions.{IsDefinitionOf, IsKnown, definitions_read, definitions_keep}
use Rattle.raw_completeness.specs.Finding.{Finds, finds}
use Rattle.raw_completeness.specs.Outlined.{outline_same}
use Rattle.raw_completeness.specs.Relating.{All, all_each, all_map}
use Rattle.raw_completeness.specs.Rows.{Reading, fixed, node, last, produce}

-- a text as it is spelled stands for these definitions, and breaks no rule
abbrev pub IsTextOf : Defs → RawText → Type 0
IsTextOf d r = (definitions r ≡ Some d) × (faults r ≡ [])

each_by : {A : Type 0} (P : A → Type 0) (xs : List A) → ((k : ℕ) (x : A) → slice_get xs k ≡ Some x → P x) → Each P xs
each_by P [] f = tt
each_by P (x ∷ xs) f = (f zero x refl, each_by P xs (λ k y e. f (suc k) y e))

text_of : (d : Defs) (ts : List Declaration) (rs : List Definition) → IsWellFormed d → All (IsDeclarationOf d (declared_by d)) d.types ts → All (IsDefinitionOf d (declared_by d)) d.defs rs →
    IsTextOf d (record { types = ts; definitions = rs })
text_of d ts rs w p q =
    let r : RawText = record { types = ts; definitions = rs } in
    let h = declared_by d in
    let same : outline_of r ≡ h = outline_same d ts rs w p q in
    let types : each (declaration_tree h) ts ≡ Some d.types = all_each (IsDeclarationOf d h) (declaration_tree h) (λ t x g. g.tree) d.types ts p in
    let defs : each (definition_tree h) rs ≡ Some d.defs = all_each (IsDefinitionOf d h) (definition_tree h) (λ e x g. g.tree) d.defs rs q in
    let names : type_names ts ≡ map (λ (t : PType). t.name) d.types = all_map (IsDeclarationOf d h) (λ (x : Declaration). x.name.text) (λ (t : PType). t.name) (λ t x g. g.named) d.types ts p in (
      (λ i. definitions_in (same i) r)
          ∙ (λ i. both (λ (xs : List PType) (ys : List Def). record { types = xs; names = d.names; defs = ys }) (types i) (defs i)),
      (λ i. text_faults_in (same i) r)
          ∙ (λ i. declarations_keep d h [] [] d.types ts p refl w.types_named.1 tt w.types i ++ definitions_keep d h (type_names ts) [] d.defs rs q names w.definitions w.kinds i),
    )

-- the tokens of well-formed definitions are read as a text that stands for them
pub text_read : (d : Defs) → IsWellFormed d → Reading N.Text (tokens_of d) (IsTextOf d)
text_read d w =
    let h = declared_by d in
    let f : Finds d h = finds d w in
    let known = each_by (IsKnown d h) d.defs f.named in
    produce N.Text 0 (fixed T.Import (word (codes "import")) (fixed T.AenPrelude (word (codes "AenPrelude")) (fixed T.Open (word (codes "open")) (fixed T.AenPrelude (word (codes "AenPrelude"))
    (node N.Types (flat_map (type_declaration d) d.types) (All (IsDeclarationOf d h) d.types) (last N.Definitions (flat_map (definition d) d.defs) (All (IsDefinitionOf d h) d.defs)))))))
    (IsTextOf d) refl (declarations_read d h f d.types w.types, definitions_read d h f d.defs w.definitions known)
    (λ ls us vs r g. (vs, (r, text_of d vs.1.1.1.1.0 vs.1.1.1.1.1.0 w g.0 g.1)))
