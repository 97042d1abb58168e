-- Declarations of types are read as they are spelled.
use Rattle.std.proofs.Common.{◌≡◌, refl, ap, sym, subst, ◌∙◌, ℕ, Bool, true, false, List, [], ◌∷◌, ◌++◌, append_assoc, length, map, Option, Some}
use Rattle.std.specs.Prelude.{◌||◌, not, codes}
use Rattle.std.specs.List.{flat_map}
use Rattle.std.specs.Option.{option_map}
use Rattle.pure_ast.specs.declared.def.Defs.{Defs}
use Rattle.pure_ast.specs.declared.def.PType.{PType}
use Rattle.pure_ast.specs.Types.{PTy}
use Rattle.text_meaning.specs.Lists.{Each, Differ}
use Rattle.text_meaning.specs.Lookups.{Variant as NamedFields}
use Rattle.text_meaning.specs.Spelled.{type_parameter, named_field, variant_tokens, structure_fields, declared_tokens, type_declaration}
use Rattle.text_meaning.specs.Tokens.{word, id}
use Rattle.text_meaning.specs.WellFormedTypes.{IsType, IsDeclaration, IsStructure, AreVariants, type_names}
use Rattle.text_table.specs.declared.part.Part.TheVariants as N
use Rattle.text_table.specs.declared.terminal.Terminal.TheVariants as T
use Rattle.raw_ast.specs.declared.declarations.Declaration.{Declaration}
use Rattle.raw_ast.specs.declared.declarations.Members.TheVariants as M
use Rattle.raw_ast.specs.declared.declarations.Variant.{Variant}
use Rattle.raw_ast.specs.declared.spelling.Spelling.{Spelling}
use Rattle.raw_ast.specs.Types.{RawType}
use Rattle.raw_ways.specs.Ways.{spelled as spelling_of}
use Rattle.raw_meaning.specs.declared.outline.Outline.{Outline}
use Rattle.raw_meaning.specs.Faults.{texts, variants_faults, fields_faults, members_faults, declarations_faults}
use Rattle.raw_meaning.specs.Heads.{head_of_variant, head_of_type}
use Rattle.raw_meaning.specs.Outlines.{type_head, variant_head}
use Rattle.raw_meaning.specs.Rules.{unless}
use Rattle.raw_meaning.specs.Trees.{variant_tree, field_tree, declaration_tree, each}
use Rattle.raw_completeness.specs.Finding.{Finds, Places, places}
use Rattle.raw_completeness.specs.Leaves.{Says, names}
use Rattle.raw_completeness.specs.Lists.{each_so, not_in}
use Rattle.raw_completeness.specs.Parameters.{AreNamesOf, type_parameters_read, AreApart, parameters_keep, IsFieldOf, fields_read, fields_keep}
use Rattle.raw_completeness.specs.Relating.{All, all_each, all_map, all_length, each_join, each_front, each_middle, differ_before}
use Rattle.raw_completeness.specs.Rows.{Reading, done, fixed, leaf, node, last, produce}
use Rattle.raw_completeness.specs.Variants.{IsVariantOf, end_keeps, variants_read, variants_keep, variants_trees, head_same}

module _ (d : Defs) (h : Outline) where
  -- a declaration as it is spelled is that of this type, and its members break no rule
  pub record IsDeclarationOf (t : PType) (r : Declaration) : Type 0 where
    pub named : r.name.text ≡ t.name
    pub parameters : texts r.parameters ≡ t.params
    pub tree : declaration_tree h r ≡ Some t
    pub head : type_head r ≡ head_of_type t
    pub members : members_faults h r.name.text (texts r.parameters) r.members ≡ []

  long : (ns : List (List ℕ)) (ss : List Spelling) → texts ss ≡ ns → length ss ≡ length ns
  long ns ss e = (end_keeps ss).1 ∙ ap (λ (xs : List (List ℕ)). length xs) e

  inductive_of : (t : PType) (s : Spelling) (ss : List Spelling) (rs : List Variant) → t.is_struct ≡ false → AreVariants false t.variants → s.text ≡ t.name → texts ss ≡ t.params →
      All (IsVariantOf d h t.name t.params) t.variants rs → IsDeclarationOf t (record { name = s; parameters = ss; members = M.Variants rs })
  inductive_of t s ss rs b w n e q = record {
    named = n;
    parameters = e;
    tree =
        (λ i. option_map (λ (vs : List NamedFields). record { name = n i; is_struct = false; params = e i; variants = vs }) (each (variant_tree h (e i)) rs))
        ∙ ap (option_map (λ (vs : List NamedFields). record { name = t.name; is_struct = false; params = t.params; variants = vs })) (variants_trees d h t.name t.params t.variants rs w.1 q)
        ∙ (λ i. Some (record { name = t.name; is_struct = sym b i; params = t.params; variants = t.variants }));
    head = λ i. record { name = n i; parameters = long t.params ss e i; variants = all_map (IsVariantOf d h t.name t.params) variant_head head_of_variant (head_same d h t.name t.params) t.variants rs q i };
    members = (λ i. variants_faults h (n i) (e i) [] rs) ∙ variants_keep d h t.name t.params [] t.variants rs q w.0.1;
  }

  structure_of : (t : PType) (v : NamedFields) (s : Spelling) (ss : List Spelling) (rs : List (Spelling × RawType)) → t.is_struct ≡ true → t.variants ≡ v ∷ [] → IsStructure (v ∷ []) →
      s.text ≡ t.name → texts ss ≡ t.params → All (IsFieldOf d h t.params) v.1 rs → IsDeclarationOf t (record { name = s; parameters = ss; members = M.Fields rs })
  structure_of t v s ss rs b one w n e q = record {
    named = n;
    parameters = e;
    tree =
        (λ i. option_map (λ (vs : List NamedFields). record { name = n i; is_struct = true; params = e i; variants = vs })
        (option_map (λ (xs : List (List ℕ × PTy)). (codes "mk", xs) ∷ []) (each (field_tree h (e i)) rs)))
        ∙ ap (λ (o : Option (List (List ℕ × PTy))). option_map (λ (vs : List NamedFields). record { name = t.name; is_struct = true; params = t.params; variants = vs })
        (option_map (λ (xs : List (List ℕ × PTy)). (codes "mk", xs) ∷ []) o))
        (all_each (IsFieldOf d h t.params) (field_tree h t.params) (λ f r p. (λ i. option_map (λ (x : PTy). (p.0 i, x)) (p.1.0 i))) v.1 rs q)
        ∙ (λ i. Some (record { name = t.name; is_struct = sym b i; params = t.params; variants = (sym w.0 i, v.1) ∷ [] }))
        ∙ (λ i. Some (record { name = t.name; is_struct = t.is_struct; params = t.params; variants = sym one i }));
    head =
        (λ i. record { name = n i; parameters = long t.params ss e i; variants = record { name = sym w.0 i; fields = all_length (IsFieldOf d h t.params) v.1 rs q i } ∷ [] })
        ∙ (λ i. record { name = t.name; parameters = length t.params; variants = map head_of_variant (sym one i) });
    members = (λ i. fields_faults h (e i) [] rs) ∙ fields_keep d h t.params [] v.1 rs q w.1.1;
  }

  module _ (finds : Finds d h) where
    structure_read : (t : PType) (vs : List NamedFields) → t.is_struct ≡ true → t.variants ≡ vs → IsStructure vs → Places d t.params → Each (λ v. Each (λ f. IsType d (length t.params) f.1) v.1) vs →
        Reading N.Declaration (word (codes "structure") ∷ id t.name ∷ (flat_map type_parameter t.params ++ word (codes "where") ∷ structure_fields d t vs)) (IsDeclarationOf t)
    structure_read t [] b one w p f = absurd w
    structure_read t (v ∷ u ∷ vs) b one w p f = absurd w
    structure_read t (v ∷ []) b one w p f =
        produce N.Declaration 1 (fixed T.Structure (word (codes "structure")) (leaf T.Name (id t.name) (Says t.name) (node N.TypeParameters (flat_map type_parameter t.params) (AreNamesOf t.params)
        (fixed T.Where (word (codes "where")) (last N.Fields (flat_map (named_field d t.params) v.1) (All (IsFieldOf d h t.params) v.1)))))) (IsDeclarationOf t) refl
        (names t.name, (type_parameters_read t.params, fields_read d h t.params finds p v.1 f.0))
        (λ ls us vs r g. (vs, (r, structure_of t v (spelling_of vs.1.0) vs.1.1.0 vs.1.1.1.1.0 b one w g.0 g.1.0 g.1.1)))

    declared_read : (t : PType) (b : Bool) → t.is_struct ≡ b → AreVariants b t.variants → Places d t.params → Each (λ v. Each (λ f. IsType d (length t.params) f.1) v.1) t.variants →
        Reading N.Declaration (declared_tokens d t b) (IsDeclarationOf t)
    declared_read t true b w p f = structure_read t t.variants b refl w p f
    declared_read t false b w p f =
        produce N.Declaration 0 (fixed T.Inductive (word (codes "inductive")) (leaf T.Name (id t.name) (Says t.name) (node N.TypeParameters (flat_map type_parameter t.params) (AreNamesOf t.params)
        (fixed T.Where (word (codes "where")) (last N.Variants (flat_map (variant_tokens d t) t.variants) (All (IsVariantOf d h t.name t.params) t.variants)))))) (IsDeclarationOf t) refl
        (names t.name, (type_parameters_read t.params, variants_read d h t.name t.params finds p t.variants f))
        (λ ls us vs r g. (vs, (r, inductive_of t (spelling_of vs.1.0) vs.1.1.0 vs.1.1.1.1.0 b w g.0 g.1.0 g.1.1)))

    pub declarations_read : (ts : List PType) → Each (IsDeclaration d) ts → Reading N.Types (flat_map (type_declaration d) ts) (All IsDeclarationOf ts)
    declarations_read [] w = produce N.Types 0 done (All IsDeclarationOf []) refl tt (λ ls us vs r g. (vs, (r, tt)))
    declarations_read (t ∷ ts) w =
        produce N.Types 1 (node N.Declaration (type_declaration d t) (IsDeclarationOf t) (last N.Types (flat_map (type_declaration d) ts) (All IsDeclarationOf ts))) (All IsDeclarationOf (t ∷ ts)) refl
        (declared_read t t.is_struct refl w.0.variants (places d t.params w.0.params) w.0.fields, declarations_read ts w.1) (λ ls us vs r g. (vs, (r, g)))

  -- ---- no declaration breaks a rule

  -- where these are the names of all types, the parameters that were declared before differ from them
  name_keeps : (all types parameters rest : List (List ℕ)) (n : List ℕ) → all ≡ types ++ n ∷ rest → Differ all → AreApart all parameters → Each (λ p. p ≡ n → ⊥) parameters
  name_keeps all types parameters rest n e g a =
      each_so (λ p. Each (λ other. p ≡ other → ⊥) all) (λ p. p ≡ n → ⊥) (λ p f. each_middle (λ other. p ≡ other → ⊥) types n rest (subst (λ (xs : List (List ℕ)). Each (λ other. p ≡ other → ⊥) xs) e f)) parameters a

  front_apart : (all front rest ns : List (List ℕ)) → all ≡ front ++ rest → AreApart all ns → AreApart front ns
  front_apart all front rest ns e a =
      each_so (λ n. Each (λ other. n ≡ other → ⊥) all) (λ n. Each (λ other. n ≡ other → ⊥) front) (λ n f. each_front (λ other. n ≡ other → ⊥) front rest (subst (λ (xs : List (List ℕ)). Each (λ other. n ≡ other → ⊥) xs) e f)) ns a

  pub declarations_keep : (types parameters : List (List ℕ)) (ts : List PType) (rs : List Declaration) → All IsDeclarationOf ts rs → type_names d ≡ types ++ map (λ t. t.name) ts → Differ (type_names d) →
      AreApart (type_names d) parameters → Each (IsDeclaration d) ts → declarations_faults h types parameters rs ≡ []
  declarations_keep types parameters [] [] q e g a w = refl
  declarations_keep types parameters [] (r ∷ rs) q e g a w = absurd q
  declarations_keep types parameters (t ∷ ts) [] q e g a w = absurd q
  declarations_keep types parameters (t ∷ ts) (r ∷ rs) q e g a w =
      let more = map (λ (t : PType). t.name) ts in
      let n = r.name.text in
      let split : type_names d ≡ types ++ n ∷ more = e ∙ ap (λ (x : List ℕ). types ++ x ∷ more) (sym q.0.named) in
      let next : type_names d ≡ (types ++ n ∷ []) ++ more = split ∙ sym (append_assoc types (n ∷ []) more) in
      let new = subst Differ split g in
      let own : AreApart (type_names d) (texts r.parameters) = subst (AreApart (type_names d)) (sym q.0.parameters) w.0.params.1 in
      let differ : Differ (texts r.parameters) = subst Differ (sym q.0.parameters) w.0.params.0.1 in
      λ i. (unless (not (not_in types n (differ_before types n more new) i || not_in parameters n (name_keeps (type_names d) types parameters more n split g a) i)) r.name.span
      ++ (parameters_keep (types ++ n ∷ []) [] r.parameters (front_apart (type_names d) (types ++ n ∷ []) more (texts r.parameters) next own) differ i ++ q.0.members i))
      ++ declarations_keep (types ++ n ∷ []) (parameters ++ texts r.parameters) ts rs q.1 next g
      (each_join (λ p. Each (λ other. p ≡ other → ⊥) (type_names d)) parameters (texts r.parameters) a own) w.1 i
