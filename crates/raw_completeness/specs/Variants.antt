-- Variants are read as they are spelled.
use Rattle.std.proofs.Common.{◌≡◌, refl, ap, sym, subst, ◌∙◌, ℕ, suc, List, [], ◌∷◌, ◌++◌, append_assoc, length, map, Some, inl, inr}
use Rattle.std.specs.Prelude.{◌==◌, ◌&&◌, not, bytes_eq}
use Rattle.std.specs.List.{flat_map}
use Rattle.std.specs.Option.{option_map}
use Rattle.pure_ast.specs.declared.def.Defs.{Defs}
use Rattle.pure_ast.specs.Types.{PTy}
use Rattle.text_meaning.specs.declared.mark.Mark.TheVariants as M
use Rattle.text_meaning.specs.Lists.{Each, Differ}
use Rattle.text_meaning.specs.Lookups.{Variant as NamedFields}
use Rattle.text_meaning.specs.Spelled.{plain_field}
use Rattle.text_meaning.specs.SpelledTypes.{type_tokens}
use Rattle.text_meaning.specs.Tokens.{Token, id, mark}
use Rattle.text_meaning.specs.WellFormedTypes.{IsType, AreNumbered, names_of}
use Rattle.text_table.specs.declared.lexeme.Lexeme.{Lexeme}
use Rattle.text_table.specs.declared.part.Part.TheVariants as N
use Rattle.text_table.specs.declared.terminal.Terminal.TheVariants as T
use Rattle.raw_ast.specs.declared.declarations.Variant.{Variant}
use Rattle.raw_ast.specs.declared.spelling.Spelling.{Spelling}
use Rattle.raw_ast.specs.Types as t
use Rattle.raw_ast.specs.Types.{RawType}
use Rattle.raw_values.specs.declared.rests.AfterName.{AfterName}
use Rattle.raw_values.specs.declared.rests.AfterName.TheVariants as after
use Rattle.raw_values.specs.declared.rests.VariantRest.{VariantRest}
use Rattle.raw_ways.specs.Ways.{spelled as spelling_of, name_first}
use Rattle.raw_meaning.specs.declared.outline.Outline.{Outline}
use Rattle.raw_meaning.specs.Faults.{type_faults, texts, variant_faults, variants_faults}
use Rattle.raw_meaning.specs.Heads.{head_of_variant}
use Rattle.raw_meaning.specs.Outlines.{variant_head}
use Rattle.raw_meaning.specs.Rules.{unless, end_names}
use Rattle.raw_meaning.specs.Trees.{type_tree, variant_tree, numbered_fields, each, both}
use Rattle.raw_completeness.specs.Finding.{Finds, Places}
use Rattle.raw_completeness.specs.Leaves.{Says, names}
use Rattle.raw_completeness.specs.Lists.{not_in, same_number, same_bytes}
use Rattle.raw_completeness.specs.Parameters.{AreNamesOf, names_read}
use Rattle.raw_completeness.specs.Relating.{All, all_length, differ_before, differ_next}
use Rattle.raw_completeness.specs.Rows.{Reading, done, fixed, leaf, node, last, produce}
use Rattle.raw_completeness.specs.Types.{IsTypeOf, ReadType, type_read}

-- ---- a variant's end

pub end_keeps : (ss : List Spelling) → (end_names (texts ss) ss ≡ []) × (length ss ≡ length (texts ss))
end_keeps [] = (refl, refl)
end_keeps (s ∷ ss) =
    let r = end_keeps ss in
    ((λ i. unless (same_bytes s.text i) s.span ++ r.0 i), ap (λ (n : ℕ). suc n) r.1)

numbered_again : (k : ℕ) (fs : List (List ℕ × PTy)) → AreNumbered k fs → numbered_fields k (map (λ f. f.1) fs) ≡ fs
numbered_again k [] w = refl
numbered_again k (f ∷ fs) w = λ i. (sym w.0 i, f.1) ∷ numbered_again (suc k) fs w.1 i

module _ (d : Defs) (h : Outline) (name : List ℕ) (ps : List (List ℕ)) where
  abbrev end_tokens : List Token
  end_tokens = id name ∷ map (λ n. id n) ps

  abbrev rest_tokens : List (List ℕ × PTy) → List Token
  rest_tokens fs = flat_map (plain_field d ps) fs ++ end_tokens

  -- fields and the end, as they are spelled
  abbrev IsRestOf : List (List ℕ × PTy) → VariantRest → Type 0
  IsRestOf fs v = All (λ f r. IsTypeOf d h ps f.1 r) fs v.fields × ((v.end.text ≡ name) × AreNamesOf ps v.parameters)

  abbrev IsEnd : List (List ℕ) → AfterName → Type 0
  IsEnd ns v = (ss : List Spelling) × ((v ≡ after.Parameters ss) × AreNamesOf ns ss)

  end_read : (ns : List (List ℕ)) → Reading N.VariantEnd (map (λ n. id n) ns) (IsEnd ns)
  end_read [] = produce N.VariantEnd 0 done (IsEnd []) refl tt (λ ls us vs r g. (vs, (r, ([], (refl, refl)))))
  end_read (n ∷ ns) =
      produce N.VariantEnd 2 (leaf T.Name (id n) (Says n) (last N.Names (map (λ n. id n) ns) (AreNamesOf ns))) (IsEnd (n ∷ ns)) refl (names n, names_read ns)
      (λ ls us vs r g. (vs, (r, (spelling_of vs.0 ∷ vs.1.0, (refl, (λ i. g.0 i ∷ g.1 i))))))

  ended : (l : Lexeme) (v : AfterName) → l.text ≡ name → IsEnd ps v → IsRestOf [] (name_first l v)
  ended l v e q = subst (λ (v : AfterName). IsRestOf [] (name_first l v)) (sym q.1.0) (tt, (e, q.1.1))

  abbrev IsMore : List (List ℕ × PTy) → AfterName → Type 0
  IsMore fs v = (w : VariantRest) × ((v ≡ after.Fields w) × IsRestOf fs w)

  more : (f : List ℕ × PTy) (fs : List (List ℕ × PTy)) (l : Lexeme) (v : AfterName) → IsTypeOf d h ps f.1 (t.named (spelling_of l) t.no_rawtypes) → IsMore fs v → IsRestOf (f ∷ fs) (name_first l v)
  more f fs l v p q = subst (λ (v : AfterName). IsRestOf (f ∷ fs) (name_first l v)) (sym q.1.0) ((p, q.1.1.0), q.1.1.1)

  field_tokens : (f : List ℕ × PTy) (fs : List (List ℕ × PTy)) → type_tokens d ps f.1 ++ mark M.To ∷ rest_tokens fs ≡ rest_tokens (f ∷ fs)
  field_tokens f fs =
      sym (append_assoc (type_tokens d ps f.1) (mark M.To ∷ []) (rest_tokens fs))
      ∙ sym (append_assoc (type_tokens d ps f.1 ++ mark M.To ∷ []) (flat_map (plain_field d ps) fs) end_tokens)

  field_read : (f : List ℕ × PTy) (fs : List (List ℕ × PTy)) → ReadType d h ps f.1 → Reading N.VariantType (rest_tokens fs) (IsRestOf fs) →
      Reading N.VariantType (type_tokens d ps f.1 ++ mark M.To ∷ rest_tokens fs) (IsRestOf (f ∷ fs))
  field_read f fs (inr p) q =
      produce N.VariantType 0 (node N.OtherType (type_tokens d ps f.1) (IsTypeOf d h ps f.1) (fixed T.To (mark M.To) (last N.VariantType (rest_tokens fs) (IsRestOf fs)))) (IsRestOf (f ∷ fs)) refl
      (p, q) (λ ls us vs r g. (vs, (r, ((g.0, g.1.0), g.1.1))))
  field_read f fs (inl p) q =
      let rest = produce N.VariantEnd 1 (fixed T.To (mark M.To) (last N.VariantType (rest_tokens fs) (IsRestOf fs))) (IsMore fs) refl q (λ ls us vs r g. (vs, (r, (vs.1.0, (refl, g))))) in
      subst (λ (ts : List Token). Reading N.VariantType (ts ++ mark M.To ∷ rest_tokens fs) (IsRestOf (f ∷ fs))) (sym p.1.0)
      (produce N.VariantType 1 (leaf T.Name (id p.0) (Says p.0) (last N.VariantEnd (mark M.To ∷ rest_tokens fs) (IsMore fs))) (IsRestOf (f ∷ fs)) refl (names p.0, rest)
      (λ ls us vs r g. (vs, (r, more f fs vs.0 vs.1.0 (p.1.1 (spelling_of vs.0) g.0) g.1))))

  rest_read : Finds d h → Places d ps → (fs : List (List ℕ × PTy)) → Each (λ f. IsType d (length ps) f.1) fs → Reading N.VariantType (rest_tokens fs) (IsRestOf fs)
  rest_read finds places [] w =
      produce N.VariantType 1 (leaf T.Name (id name) (Says name) (last N.VariantEnd (map (λ n. id n) ps) (IsEnd ps))) (IsRestOf []) refl (names name, end_read ps)
      (λ ls us vs r g. (vs, (r, ended vs.0 vs.1.0 g.0 g.1)))
  rest_read finds places (f ∷ fs) w =
      subst (λ (ts : List Token). Reading N.VariantType ts (IsRestOf (f ∷ fs))) (field_tokens f fs) (field_read f fs (type_read d h ps finds places f.1 w.0) (rest_read finds places fs w.1))

  -- ---- variants

  -- a variant as it is spelled is this one
  pub record IsVariantOf (v : NamedFields) (r : Variant) : Type 0 where
    pub named : r.name.text ≡ v.0
    pub fields : All (λ f x. IsTypeOf d h ps f.1 x) v.1 r.fields
    pub end : r.end.text ≡ name
    pub parameters : AreNamesOf ps r.parameters

  abbrev pub tokens_of_variants : List NamedFields → List Token
  tokens_of_variants vs = flat_map (λ v. mark M.Bar ∷ id v.0 ∷ mark M.Colon ∷ rest_tokens v.1) vs

  pub variants_read : Finds d h → Places d ps → (vs : List NamedFields) → Each (λ v. Each (λ f. IsType d (length ps) f.1) v.1) vs → Reading N.Variants (tokens_of_variants vs) (All IsVariantOf vs)
  variants_read finds places [] w = produce N.Variants 0 done (All IsVariantOf []) refl tt (λ ls us vs r g. (vs, (r, tt)))
  variants_read finds places (v ∷ vs) w =
      produce N.Variants 1 (fixed T.Bar (mark M.Bar) (leaf T.Name (id v.0) (Says v.0) (fixed T.Colon (mark M.Colon) (node N.VariantType (rest_tokens v.1) (IsRestOf v.1)
      (last N.Variants (tokens_of_variants vs) (All IsVariantOf vs)))))) (All IsVariantOf (v ∷ vs)) refl (names v.0, (rest_read finds places v.1 w.0, variants_read finds places vs w.1))
      (λ ls us xs r g. (xs, (r, (record { named = g.0; fields = g.1.0.0; end = g.1.0.1.0; parameters = g.1.0.1.1 }, g.1.1))))

  variant_tree_of : (v : NamedFields) (r : Variant) → AreNumbered 0 v.1 → IsVariantOf v r → variant_tree h ps r ≡ Some v
  variant_tree_of v r n w =
      let types : each (type_tree h ps) r.fields ≡ Some (map (λ f. f.1) v.1) = types_of v.1 r.fields w.fields in
      (λ i. option_map (λ (xs : List PTy). (w.named i, numbered_fields 0 xs)) (types i)) ∙ ap (λ (fs : List (List ℕ × PTy)). Some (v.0, fs)) (numbered_again 0 v.1 n)
    where
      types_of : (fs : List (List ℕ × PTy)) (rs : List RawType) → All (λ f x. IsTypeOf d h ps f.1 x) fs rs → each (type_tree h ps) rs ≡ Some (map (λ f. f.1) fs)
      types_of [] [] q = refl
      types_of [] (r ∷ rs) q = absurd q
      types_of (f ∷ fs) [] q = absurd q
      types_of (f ∷ fs) (r ∷ rs) q = λ i. both (λ y ys. y ∷ ys) (q.0.0 i) (types_of fs rs q.1 i)

  fields_keep : (fs : List (List ℕ × PTy)) (rs : List RawType) → All (λ f x. IsTypeOf d h ps f.1 x) fs rs → flat_map (type_faults h ps) rs ≡ []
  fields_keep [] [] q = refl
  fields_keep [] (r ∷ rs) q = absurd q
  fields_keep (f ∷ fs) [] q = absurd q
  fields_keep (f ∷ fs) (r ∷ rs) q = λ i. q.0.1 i ++ fields_keep fs rs q.1 i

  variant_keeps : (v : NamedFields) (r : Variant) → IsVariantOf v r → variant_faults h name ps r ≡ []
  variant_keeps v r w =
      let e = end_keeps r.parameters in
      let long : length r.parameters ≡ length ps = e.1 ∙ ap (λ (xs : List (List ℕ)). length xs) w.parameters in
      let names : end_names ps r.parameters ≡ [] = subst (λ (xs : List (List ℕ)). end_names xs r.parameters ≡ []) w.parameters e.0 in
      (λ i. fields_keep v.1 r.fields w.fields i ++ (unless (bytes_eq (w.end i) name && (long i == length ps)) r.end.span ++ names i))
      ∙ (λ i. unless (same_bytes name i && same_number (length ps) i) r.end.span ++ [])

  pub variants_keep : (before : List (List ℕ)) (vs : List NamedFields) (rs : List Variant) → All IsVariantOf vs rs → Differ (before ++ names_of vs) → variants_faults h name ps before rs ≡ []
  variants_keep before [] [] q g = refl
  variants_keep before [] (r ∷ rs) q g = absurd q
  variants_keep before (v ∷ vs) [] q g = absurd q
  variants_keep before (v ∷ vs) (r ∷ rs) q g =
      let g' = subst (λ (n : List ℕ). Differ (before ++ n ∷ names_of vs)) (sym q.0.named) g in
      λ i. unless (not (not_in before r.name.text (differ_before before r.name.text (names_of vs) g') i)) r.name.span
      ++ (variant_keeps v r q.0 i ++ variants_keep (before ++ r.name.text ∷ []) vs rs q.1 (differ_next before r.name.text (names_of vs) g') i)

  pub variants_trees : (vs : List NamedFields) (rs : List Variant) → Each (λ v. AreNumbered 0 v.1) vs → All IsVariantOf vs rs → each (variant_tree h ps) rs ≡ Some vs
  variants_trees [] [] n q = refl
  variants_trees [] (r ∷ rs) n q = absurd q
  variants_trees (v ∷ vs) [] n q = absurd q
  variants_trees (v ∷ vs) (r ∷ rs) n q = λ i. both (λ y ys. y ∷ ys) (variant_tree_of v r n.0 q.0 i) (variants_trees vs rs n.1 q.1 i)

  pub head_same : (v : NamedFields) (r : Variant) → IsVariantOf v r → variant_head r ≡ head_of_variant v
  head_same v r w = λ i. record { name = w.named i; fields = all_length (λ f x. IsTypeOf d h ps f.1 x) v.1 r.fields w.fields i }
