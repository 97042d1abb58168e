-- Definitions are read as they are spelled.
use Rattle.std.proofs.Common.{◌≡◌, refl, ap, sym, subst, ◌∙◌, ℕ, ◌+◌, ◌<◌, ◌≤◌, ◌^◌, false, List, [], ◌∷◌, ◌++◌, append_assoc, length, map, Option, Some, pos, arith}
use Rattle.std.specs.Prelude.{◌||◌, not, codes}
use Rattle.std.specs.List.{flat_map}
use Rattle.aen_base.specs.declared.span.Span.{Span}
use Rattle.pure_ast.specs.declared.def.Def.{Def}
use Rattle.pure_ast.specs.declared.def.DefKind.{DefKind}
use Rattle.pure_ast.specs.declared.def.Defs.{Defs}
use Rattle.pure_ast.specs.Code.{Code}
use Rattle.pure_ast.specs.Types.{PTy}
use Rattle.text_meaning.specs.declared.mark.Mark.TheVariants as M
use Rattle.text_meaning.specs.Lists.{Each, Differ}
use Rattle.text_meaning.specs.Spelled.{implicit_parameter, parameters_tokens, fuel_tokens, fuel_match, definition}
use Rattle.text_meaning.specs.SpelledCode.{code_tokens}
use Rattle.text_meaning.specs.SpelledNames.{kind_tokens}
use Rattle.text_meaning.specs.SpelledTypes.{type_tokens}
use Rattle.text_meaning.specs.Tokens.{Token, word, number, mark}
use Rattle.text_meaning.specs.WellFormed.{function_of, IsKind, IsDefinition}
use Rattle.text_meaning.specs.WellFormedTypes.{type_names}
use Rattle.text_table.specs.declared.part.Part.TheVariants as N
use Rattle.text_table.specs.declared.terminal.Terminal.TheVariants as T
use Rattle.raw_ast.specs.declared.declarations.Definition.{Definition}
use Rattle.raw_ast.specs.declared.names.DefinitionName.{DefinitionName}
use Rattle.raw_ast.specs.declared.spelling.Spelling.{Spelling}
use Rattle.raw_ast.specs.Code.{RawCode}
use Rattle.raw_ast.specs.Types.{RawType}
use Rattle.raw_meaning.specs.declared.outline.Outline.{Outline}
use Rattle.raw_meaning.specs.Faults.{texts, type_faults, code_faults, values_faults, definitions_faults, and_kind}
use Rattle.raw_meaning.specs.Lookups.{same_kind}
use Rattle.raw_meaning.specs.Outlines.{kind_of}
use Rattle.raw_meaning.specs.Rules.{unless, once, is_among, last_place}
use Rattle.raw_meaning.specs.Trees.{type_tree, code_tree, parameter_types, definition_tree, defined, four}
use Rattle.raw_completeness.specs.Booleans.{false_if}
use Rattle.raw_completeness.specs.Code.{IsCodeOf, code_read}
use Rattle.raw_completeness.specs.Finding.{Finds, places, kind_same}
use Rattle.raw_completeness.specs.Leaves.{Any, zeros, ones}
use Rattle.raw_completeness.specs.Names.{IsNameOf, kind_found, numbers_keep, name_read}
use Rattle.raw_completeness.specs.Parameters.{AreNamesOf, implicit_parameters_read, AreApart, parameters_keep, AreParametersOf, parameters_read, parameters_related, values_keep}
use Rattle.raw_completeness.specs.Relating.{All, all_each, all_length, differ_before, differ_next}
use Rattle.raw_completeness.specs.Rows.{Reading, done, fixed, leaf, node, last, produce}
use Rattle.raw_completeness.specs.Types.{IsTypeOf, as_type, type_read}

-- ---- fuel

abbrev Nothing : Unit {0} → Type 0
Nothing v = Unit {0}

fuel_read : Reading N.FuelParameter fuel_tokens Nothing
fuel_read =
    produce N.FuelParameter 0 (fixed T.OpenBracket (mark M.Open) (fixed T.Fuel (word (codes "n")) (fixed T.Colon (mark M.Colon) (fixed T.Nat (word (codes "Nat"))
    (fixed T.CloseBracket (mark M.Close) done))))) Nothing refl tt (λ ls us vs r g. (vs, (r, tt)))

match_read : Reading N.FuelMatch fuel_match Nothing
match_read =
    produce N.FuelMatch 0 (fixed T.Match (word (codes "match")) (fixed T.Fuel (word (codes "n")) (fixed T.With (word (codes "with"))
    (fixed T.Bar (mark M.Bar) (leaf T.Zero (number (pos 0)) Any (fixed T.Gives (mark M.Gives) (fixed T.OutOfFuel (word (codes "outOfFuel"))
    (fixed T.Bar (mark M.Bar) (fixed T.Fuel (word (codes "n")) (fixed T.Plus (mark M.Plus) (leaf T.One (number (pos 1)) Any (fixed T.Gives (mark M.Gives) (fixed T.Do (word (codes "do")) done)))))))))))))
    Nothing refl (zeros, (ones, tt)) (λ ls us vs r g. (vs, (r, tt)))

-- ---- definitions

module _ (d : Defs) (h : Outline) where
  -- a definition as it is spelled is this one, and its types and code break no rule
  pub record IsDefinitionOf (e : Def) (r : Definition) : Type 0 where
    pub name : IsNameOf d e.kind r.name
    pub kind : kind_of h.functions r.name ≡ Some e.kind
    pub type_parameters : texts r.type_parameters ≡ e.type_params
    pub count : length r.parameters ≡ length e.params
    pub tree : definition_tree h r ≡ Some e
    pub parts : values_faults h (texts r.type_parameters) 0 r.parameters ++ (type_faults h (texts r.type_parameters) r.result ++ code_faults h r.code) ≡ []

  -- its function is one of the functions, and its numbers are small
  abbrev pub IsKnown : Def → Type 0
  IsKnown e = (function_of e.kind < length d.names) × IsKind e.kind

  definition_of : (e : Def) (n : DefinitionName) (ss : List Spelling) (rs : List (Spelling × RawType)) (x : RawType) (c : RawCode) → 0 + length e.params ≤ 2 ^ 32 →
      IsNameOf d e.kind n → kind_of h.functions n ≡ Some e.kind → texts ss ≡ e.type_params → AreParametersOf d h e.type_params 0 e.params rs → IsTypeOf d h e.type_params e.result x → IsCodeOf d h e.code c →
      IsDefinitionOf e (record { name = n; type_parameters = ss; parameters = rs; result = x; code = c })
  definition_of e n ss rs x c l name kind s q p m =
      let related = parameters_related d h e.type_params 0 e.params rs q in
      let types : parameter_types h e.type_params rs ≡ Some e.params =
      all_each (λ (y : PTy) (r : Spelling × RawType). IsTypeOf d h e.type_params y r.1) (λ (r : Spelling × RawType). type_tree h e.type_params r.1) (λ y r w. w.0) e.params rs related in
      record {
        name = name;
        kind = kind;
        type_parameters = s;
        count = all_length (λ (y : PTy) (r : Spelling × RawType). IsTypeOf d h e.type_params y r.1) e.params rs related;
        tree =
            (λ i. four (λ (k : DefKind) (xs : List PTy) (y : PTy) (b : Code). defined k (s i) xs y b) (kind i) (parameter_types h (s i) rs) (type_tree h (s i) x) (code_tree h c))
            ∙ (λ i. four (λ (k : DefKind) (xs : List PTy) (y : PTy) (b : Code). defined k e.type_params xs y b) (Some e.kind) (types i) (p.0 i) (m.0 i));
        parts =
            (λ i. values_faults h (s i) 0 rs ++ (type_faults h (s i) x ++ code_faults h c))
            ∙ (λ i. values_keep d h e.type_params 0 e.params rs l q i ++ (p.1 i ++ m.1 i));
      }

  module _ (finds : Finds d h) where
    abbrev after_binders : Def → List Token
    after_binders e = mark M.Colon ∷ word (codes "Result") ∷ (type_tokens d e.type_params e.result ++ mark M.Becomes ∷ (fuel_match ++ code_tokens d e.code))

    binders : (xs ys zs rest : List Token) → xs ++ (ys ++ (zs ++ rest)) ≡ (xs ++ (ys ++ zs)) ++ rest
    binders xs ys zs rest = ap (λ (ts : List Token). xs ++ ts) (sym (append_assoc ys zs rest)) ∙ sym (append_assoc xs (ys ++ zs) rest)

    definition_read : (e : Def) → IsDefinition d e → IsKnown e → Reading N.Definition (definition d e) (IsDefinitionOf e)
    definition_read e w k =
        let ps = e.type_params in
        let at = places d ps w.type_params in
        let l : 0 + length e.params ≤ 2 ^ 32 = let c = w.count in omega arith in
        let place = finds.functions (function_of e.kind) k.0 in
        subst (λ (ts : List Token). Reading N.Definition (word (codes "def") ∷ (kind_tokens d e.kind ++ ts)) (IsDefinitionOf e))
        (binders (flat_map implicit_parameter ps) fuel_tokens (parameters_tokens d ps 0 e.params) (after_binders e))
        (produce N.Definition 0 (fixed T.Def (word (codes "def")) (node N.DefinitionName (kind_tokens d e.kind) (IsNameOf d e.kind)
        (node N.ImplicitParameters (flat_map implicit_parameter ps) (AreNamesOf ps) (node N.FuelParameter fuel_tokens Nothing
        (node N.Parameters (parameters_tokens d ps 0 e.params) (AreParametersOf d h ps 0 e.params) (fixed T.Colon (mark M.Colon) (fixed T.Result (word (codes "Result"))
        (node N.Type (type_tokens d ps e.result) (IsTypeOf d h ps e.result) (fixed T.Becomes (mark M.Becomes) (node N.FuelMatch fuel_match Nothing
        (last N.Code (code_tokens d e.code) (IsCodeOf d h e.code)))))))))))) (IsDefinitionOf e) refl (
          name_read d e.kind k.1,
          (
            implicit_parameters_read ps,
            (
              fuel_read,
              (
                parameters_read d h ps finds at 0 e.params l w.params,
                (as_type d h ps e.result (type_read d h ps finds at e.result w.result), (match_read, code_read d h finds e.code w.code)),
              ),
            ),
          ),
        )
        (λ ls us vs r g. (
          vs,
          (
            r,
            definition_of e vs.1.0 vs.1.1.0 vs.1.1.1.1.0 vs.1.1.1.1.1.1.1.0 vs.1.1.1.1.1.1.1.1.1.1.0 l
                g.0 (kind_found d e.kind vs.1.0 h.functions g.0 place) g.1.0 g.1.1.1.0 g.1.1.1.1.0 g.1.1.1.1.1.1,
          ),
        )))

    pub definitions_read : (es : List Def) → Each (IsDefinition d) es → Each IsKnown es → Reading N.Definitions (flat_map (definition d) es) (All IsDefinitionOf es)
    definitions_read [] w k = produce N.Definitions 0 done (All IsDefinitionOf []) refl tt (λ ls us vs r g. (vs, (r, tt)))
    definitions_read (e ∷ es) w k =
        produce N.Definitions 1 (node N.Definition (definition d e) (IsDefinitionOf e) (last N.Definitions (flat_map (definition d) es) (All IsDefinitionOf es))) (All IsDefinitionOf (e ∷ es)) refl
        (definition_read e w.0 k.0, definitions_read es w.1 k.1) (λ ls us vs r g. (vs, (r, g)))

  -- ---- no definition breaks a rule

  not_among : (kinds : List DefKind) (k : DefKind) → Each (λ x. x ≡ k → ⊥) kinds → is_among kinds k ≡ false
  not_among [] k w = refl
  not_among (x ∷ xs) k w = λ i. false_if (same_kind x k) (λ e. w.0 (kind_same x k e)) i || not_among xs k w.1 i

  once_keeps : (o : Option DefKind) (k : DefKind) (kinds : List DefKind) (place : Span) → o ≡ Some k → Each (λ x. x ≡ k → ⊥) kinds → once o kinds place ≡ []
  once_keeps o k kinds place e w = (λ i. once (e i) kinds place) ∙ (λ i. unless (not (not_among kinds k w i)) place)

  pub definitions_keep : (types : List (List ℕ)) (kinds : List DefKind) (es : List Def) (rs : List Definition) → All IsDefinitionOf es rs → types ≡ type_names d → Each (IsDefinition d) es →
      Differ (kinds ++ map (λ e. e.kind) es) → definitions_faults h types kinds rs ≡ []
  definitions_keep types kinds [] [] q t w g = refl
  definitions_keep types kinds [] (r ∷ rs) q t w g = absurd q
  definitions_keep types kinds (e ∷ es) [] q t w g = absurd q
  definitions_keep types kinds (e ∷ es) (r ∷ rs) q t w g =
      let more = map (λ (e : Def). e.kind) es in
      let apart : AreApart types (texts r.type_parameters) =
      subst (λ (ts : List (List ℕ)). AreApart ts (texts r.type_parameters)) (sym t) (subst (AreApart (type_names d)) (sym q.0.type_parameters) w.0.type_params.1) in
      let differ : Differ (texts r.type_parameters) = subst Differ (sym q.0.type_parameters) w.0.type_params.0.1 in
      let rest = definitions_keep types (kinds ++ e.kind ∷ []) es rs q.1 t w.1 (differ_next kinds e.kind more g) in
      (λ i. ((numbers_keep d e.kind r.name q.0.name i ++ once_keeps (kind_of h.functions r.name) e.kind kinds (last_place r.name) q.0.kind (differ_before kinds e.kind more g) i)
      ++ (parameters_keep types [] r.type_parameters apart differ i ++ q.0.parts i)) ++ definitions_faults h types (and_kind kinds (q.0.kind i)) rs)
      ∙ rest
