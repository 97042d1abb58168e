-- Type parameters, fields and parameters are read as they are spelled.
use Rattle.std.proofs.Common.{◌≡◌, refl, ap, sym, subst, ◌∙◌, ℕ, suc, ◌+◌, ◌≤◌, ◌^◌, Bool, List, [], ◌∷◌, ◌++◌, append_assoc, length, map, Some, arith}
use Rattle.std.specs.Prelude.{◌||◌, not, codes}
use Rattle.std.specs.List.{flat_map}
use Rattle.pure_ast.specs.declared.def.Defs.{Defs}
use Rattle.pure_ast.specs.Types.{PTy}
use Rattle.text_meaning.specs.declared.mark.Mark.TheVariants as M
use Rattle.text_meaning.specs.Lists.{Each, Differ}
use Rattle.text_meaning.specs.Spelled.{type_parameter, implicit_parameter, named_field, parameters_tokens}
use Rattle.text_meaning.specs.SpelledNames.{var_token}
use Rattle.text_meaning.specs.SpelledTypes.{type_tokens}
use Rattle.text_meaning.specs.Tokens.{Token, word, id, mark, var_text}
use Rattle.text_meaning.specs.WellFormedTypes.{IsType, names_of}
use Rattle.text_table.specs.declared.part.Part.TheVariants as N
use Rattle.text_table.specs.declared.terminal.Terminal.TheVariants as T
use Rattle.raw_ast.specs.declared.spelling.Spelling.{Spelling}
use Rattle.raw_ast.specs.Types.{RawType}
use Rattle.raw_ways.specs.Ways.{spelled as spelling_of}
use Rattle.raw_meaning.specs.declared.outline.Outline.{Outline}
use Rattle.raw_meaning.specs.Faults.{texts, parameters_faults, fields_faults, values_faults}
use Rattle.raw_meaning.specs.Numbers.{numbered}
use Rattle.raw_meaning.specs.Rules.{unless, is_number}
use Rattle.raw_completeness.specs.Finding.{Finds, Places}
use Rattle.raw_completeness.specs.Leaves.{Says, names, variables}
use Rattle.raw_completeness.specs.Lists.{each_so, not_in, same_number}
use Rattle.raw_completeness.specs.Numerals.{numbered_read}
use Rattle.raw_completeness.specs.Relating.{All, differ_before, differ_next}
use Rattle.raw_completeness.specs.Rows.{Reading, done, fixed, leaf, node, last, produce}
use Rattle.raw_completeness.specs.Types.{IsTypeOf, as_type, type_read}

-- ---- names

-- what is spelled is these names
abbrev pub AreNamesOf : List (List ℕ) → List Spelling → Type 0
AreNamesOf ns ss = texts ss ≡ ns

more_names : (n : List ℕ) (ns : List (List ℕ)) (s : Spelling) (ss : List Spelling) → s.text ≡ n → AreNamesOf ns ss → AreNamesOf (n ∷ ns) (s ∷ ss)
more_names n ns s ss e q = λ i. e i ∷ q i

pub names_read : (ns : List (List ℕ)) → Reading N.Names (map (λ n. id n) ns) (AreNamesOf ns)
names_read [] = produce N.Names 0 done (AreNamesOf []) refl tt (λ ls us vs r g. (vs, (r, refl)))
names_read (n ∷ ns) =
    produce N.Names 1 (leaf T.Name (id n) (Says n) (last N.Names (map (λ n. id n) ns) (AreNamesOf ns))) (AreNamesOf (n ∷ ns)) refl (names n, names_read ns)
    (λ ls us vs r g. (vs, (r, more_names n ns (spelling_of vs.0) vs.1.0 g.0 g.1)))

pub type_parameters_read : (ns : List (List ℕ)) → Reading N.TypeParameters (flat_map type_parameter ns) (AreNamesOf ns)
type_parameters_read [] = produce N.TypeParameters 0 done (AreNamesOf []) refl tt (λ ls us vs r g. (vs, (r, refl)))
type_parameters_read (n ∷ ns) =
    produce N.TypeParameters 1 (fixed T.OpenBracket (mark M.Open) (leaf T.Name (id n) (Says n) (fixed T.Colon (mark M.Colon) (fixed T.Type (word (codes "Type"))
    (fixed T.CloseBracket (mark M.Close) (last N.TypeParameters (flat_map type_parameter ns) (AreNamesOf ns))))))) (AreNamesOf (n ∷ ns)) refl (names n, type_parameters_read ns)
    (λ ls us vs r g. (vs, (r, more_names n ns (spelling_of vs.1.0) vs.1.1.1.1.1.0 g.0 g.1)))

pub implicit_parameters_read : (ns : List (List ℕ)) → Reading N.ImplicitParameters (flat_map implicit_parameter ns) (AreNamesOf ns)
implicit_parameters_read [] = produce N.ImplicitParameters 0 done (AreNamesOf []) refl tt (λ ls us vs r g. (vs, (r, refl)))
implicit_parameters_read (n ∷ ns) =
    produce N.ImplicitParameters 1 (fixed T.OpenBrace (mark M.OpenBrace) (leaf T.Name (id n) (Says n) (fixed T.Colon (mark M.Colon) (fixed T.Type (word (codes "Type"))
    (fixed T.CloseBrace (mark M.CloseBrace) (last N.ImplicitParameters (flat_map implicit_parameter ns) (AreNamesOf ns))))))) (AreNamesOf (n ∷ ns)) refl (names n, implicit_parameters_read ns)
    (λ ls us vs r g. (vs, (r, more_names n ns (spelling_of vs.1.0) vs.1.1.1.1.1.0 g.0 g.1)))

-- names of type parameters that differ, and from these types, break no rule
abbrev pub AreApart : List (List ℕ) → List (List ℕ) → Type 0
AreApart types ns = Each (λ n. Each (λ other. n ≡ other → ⊥) types) ns

other_way : (types : List (List ℕ)) (n : List ℕ) → Each (λ other. n ≡ other → ⊥) types → Each (λ other. other ≡ n → ⊥) types
other_way types n h = each_so (λ other. n ≡ other → ⊥) (λ other. other ≡ n → ⊥) (λ x f e. f (sym e)) types h

pub parameters_keep : (types before : List (List ℕ)) (ss : List Spelling) → AreApart types (texts ss) → Differ (before ++ texts ss) → parameters_faults types before ss ≡ []
parameters_keep types before [] a g = refl
parameters_keep types before (s ∷ ss) a g =
    λ i. unless (not (not_in types s.text (other_way types s.text a.0) i || not_in before s.text (differ_before before s.text (texts ss) g) i)) s.span
    ++ parameters_keep types (before ++ s.text ∷ []) ss a.1 (differ_next before s.text (texts ss) g) i

-- ---- fields of a structure

-- a type, a bracket, and the rest
closed : (ts rest : List Token) → (ts ++ mark M.Close ∷ []) ++ rest ≡ ts ++ mark M.Close ∷ rest
closed ts rest = append_assoc ts (mark M.Close ∷ []) rest

module _ (d : Defs) (h : Outline) (ps : List (List ℕ)) where
  abbrev pub IsFieldOf : List ℕ × PTy → Spelling × RawType → Type 0
  IsFieldOf f r = (r.0.text ≡ f.0) × IsTypeOf d h ps f.1 r.1

  pub fields_read : Finds d h → Places d ps → (fs : List (List ℕ × PTy)) → Each (λ f. IsType d (length ps) f.1) fs → Reading N.Fields (flat_map (named_field d ps) fs) (All IsFieldOf fs)
  fields_read finds places [] w = produce N.Fields 0 done (All IsFieldOf []) refl tt (λ ls us vs r g. (vs, (r, tt)))
  fields_read finds places (f ∷ fs) w =
      subst (λ (ts : List Token). Reading N.Fields (mark M.Open ∷ id f.0 ∷ mark M.Colon ∷ ts) (All IsFieldOf (f ∷ fs))) (sym (closed (type_tokens d ps f.1) (flat_map (named_field d ps) fs)))
      (produce N.Fields 1 (fixed T.OpenBracket (mark M.Open) (leaf T.Name (id f.0) (Says f.0) (fixed T.Colon (mark M.Colon) (node N.Type (type_tokens d ps f.1) (IsTypeOf d h ps f.1)
      (fixed T.CloseBracket (mark M.Close) (last N.Fields (flat_map (named_field d ps) fs) (All IsFieldOf fs))))))) (All IsFieldOf (f ∷ fs)) refl
      (names f.0, (as_type d h ps f.1 (type_read d h ps finds places f.1 w.0), fields_read finds places fs w.1))
      (λ ls us vs r g. (vs, (r, ((g.0, g.1.0), g.1.1)))))

  pub fields_keep : (before : List (List ℕ)) (fs : List (List ℕ × PTy)) (rs : List (Spelling × RawType)) → All IsFieldOf fs rs → Differ (before ++ names_of fs) → fields_faults h ps before rs ≡ []
  fields_keep before [] [] q g = refl
  fields_keep before [] (r ∷ rs) q g = absurd q
  fields_keep before (f ∷ fs) [] q g = absurd q
  fields_keep before (f ∷ fs) (r ∷ rs) q g =
      let e = sym q.0.0 in
      let g' = subst (λ (n : List ℕ). Differ (before ++ n ∷ names_of fs)) e g in
      λ i. unless (not (not_in before r.0.text (differ_before before r.0.text (names_of fs) g') i)) r.0.span
      ++ (q.0.1.1 i ++ fields_keep (before ++ r.0.text ∷ []) fs rs q.1 (differ_next before r.0.text (names_of fs) g') i)

  -- ---- parameters of a definition, from place k on

  abbrev IsParameterOf : ℕ → PTy → Spelling × RawType → Type 0
  IsParameterOf k x r = (r.0.text ≡ var_text k) × IsTypeOf d h ps x r.1

  abbrev pub AreParametersOf : ℕ → List PTy → List (Spelling × RawType) → Type 0
  AreParametersOf k [] [] = Unit {0}
  AreParametersOf k [] (r ∷ rs) = ⊥
  AreParametersOf k (x ∷ xs) [] = ⊥
  AreParametersOf k (x ∷ xs) (r ∷ rs) = IsParameterOf k x r × AreParametersOf (suc k) xs rs

  pub parameters_read : Finds d h → Places d ps → (k : ℕ) (xs : List PTy) → k + length xs ≤ 2 ^ 32 → Each (IsType d (length ps)) xs → Reading N.Parameters (parameters_tokens d ps k xs) (AreParametersOf k xs)
  parameters_read finds places k [] l w = produce N.Parameters 0 done (AreParametersOf k []) refl tt (λ ls us vs r g. (vs, (r, tt)))
  parameters_read finds places k (x ∷ xs) l w =
      subst (λ (ts : List Token). Reading N.Parameters (mark M.Open ∷ var_token k ∷ mark M.Colon ∷ ts) (AreParametersOf k (x ∷ xs))) (sym (closed (type_tokens d ps x) (parameters_tokens d ps (suc k) xs)))
      (produce N.Parameters 1 (fixed T.OpenBracket (mark M.Open) (leaf T.Variable (var_token k) (Says (var_text k)) (fixed T.Colon (mark M.Colon) (node N.Type (type_tokens d ps x) (IsTypeOf d h ps x)
      (fixed T.CloseBracket (mark M.Close) (last N.Parameters (parameters_tokens d ps (suc k) xs) (AreParametersOf (suc k) xs))))))) (AreParametersOf k (x ∷ xs)) refl
      (variables k (omega arith), (as_type d h ps x (type_read d h ps finds places x w.0), parameters_read finds places (suc k) xs (omega arith) w.1))
      (λ ls us vs r g. (vs, (r, ((g.0, g.1.0), g.1.1)))))

  pub parameters_related : (k : ℕ) (xs : List PTy) (rs : List (Spelling × RawType)) → AreParametersOf k xs rs → All (λ x r. IsTypeOf d h ps x r.1) xs rs
  parameters_related k [] [] q = tt
  parameters_related k [] (r ∷ rs) q = absurd q
  parameters_related k (x ∷ xs) [] q = absurd q
  parameters_related k (x ∷ xs) (r ∷ rs) q = (q.0.1, parameters_related (suc k) xs rs q.1)

  pub values_keep : (k : ℕ) (xs : List PTy) (rs : List (Spelling × RawType)) → k + length xs ≤ 2 ^ 32 → AreParametersOf k xs rs → values_faults h ps k rs ≡ []
  values_keep k [] [] l q = refl
  values_keep k [] (r ∷ rs) l q = absurd q
  values_keep k (x ∷ xs) [] l q = absurd q
  values_keep k (x ∷ xs) (r ∷ rs) l q =
      let found : numbered (codes "v") r.0.text ≡ Some k = ap (numbered (codes "v")) q.0.0 ∙ numbered_read (codes "v") k (omega arith) in
      let rest = values_keep (suc k) xs rs (omega arith) q.1 in
      (λ i. unless (is_number (found i) k) r.0.span ++ (q.0.1.1 i ++ rest i)) ∙ ap (λ (b : Bool). unless b r.0.span ++ []) (same_number k)
