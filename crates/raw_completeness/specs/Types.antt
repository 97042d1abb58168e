-- Types are read as they are spelled.
use Rattle.std.proofs.Common.{◌≡◌, refl, ap, sym, subst, ◌∙◌, ℕ, suc, ◌<◌, Bool, true, List, [], ◌∷◌, ◌++◌, append_assoc, length, Option, Some, None, ◌⊎◌, inl, inr, arith}
use Rattle.std.specs.Prelude.{◌==◌, if◌then◌else◌, codes, is_some}
use Rattle.std.specs.Option.{option_map}
use Rattle.aen_base.specs.declared.int_ty.IntTy.{IntTy}
use Rattle.pure_ast.specs.declared.def.Defs.{Defs}
use Rattle.pure_ast.specs.Types as ty
use Rattle.pure_ast.specs.Types.{PTy, PTys, integer, boolean, unit, product, named, parameter, exit, no_ptys, more_ptys, ptys_list}
use Rattle.text_meaning.specs.declared.mark.Mark.TheVariants.{Open, Close, Times}
use Rattle.text_meaning.specs.Lookups.{type_name, parameter_name}
use Rattle.text_meaning.specs.SpelledTypes.{type_tokens, types_tokens, times_tokens}
use Rattle.text_meaning.specs.Tokens.{Token, word, id, mark}
use Rattle.text_meaning.specs.Words.{int_word}
use Rattle.text_meaning.specs.WellFormedTypes.{IsType, AreTypes, parameters_of}
use Rattle.text_table.specs.declared.lexeme.Lexeme.{Lexeme}
use Rattle.text_table.specs.declared.part.Part.TheVariants as N
use Rattle.text_table.specs.declared.terminal.Terminal.TheVariants as T
use Rattle.raw_ast.specs.declared.spelling.Spelling.{Spelling}
use Rattle.raw_ast.specs.Types as t
use Rattle.raw_ast.specs.Types.{RawType, rawtypes, rawtypes_list}
use Rattle.raw_values.specs.declared.rests.AfterTypeName.{AfterTypeName}
use Rattle.raw_values.specs.declared.rests.AfterTypeName.TheVariants as after
use Rattle.raw_ways.specs.Ways.{spelled as spelling_of, after_name}
use Rattle.raw_meaning.specs.declared.outline.Outline.{Outline}
use Rattle.raw_meaning.specs.Faults.{type_faults, types_faults}
use Rattle.raw_meaning.specs.Lookups.{type_of}
use Rattle.raw_meaning.specs.Outlines.{place_of}
use Rattle.raw_meaning.specs.Rules.{unless, unless_parts}
use Rattle.raw_meaning.specs.Trees.{type_tree, type_trees, named_by, both}
use Rattle.raw_completeness.specs.Finding.{Finds, Places}
use Rattle.raw_completeness.specs.Leaves.{Says, names, IsInt, ints}
use Rattle.raw_completeness.specs.Lists.{same_number}
use Rattle.raw_completeness.specs.Rows.{Reading, Row, done, fixed, leaf, node, last, spelled, all_fit, Given, Making, produce}

module _ (d : Defs) (h : Outline) (ps : List (List ℕ)) where
  -- a type as it is spelled stands for this type, and breaks no rule
  abbrev pub IsTypeOf : PTy → RawType → Type 0
  IsTypeOf x v = (type_tree h ps v ≡ Some x) × (type_faults h ps v ≡ [])

  abbrev pub AreTypesOf : PTys → List RawType → Type 0
  AreTypesOf xs vs =
      (type_trees h ps (rawtypes vs) ≡ Some xs) × ((types_faults h ps (rawtypes vs) ≡ []) × (length (rawtypes_list (rawtypes vs)) ≡ length (ptys_list xs)))

  -- a name alone stands for this type
  abbrev pub IsNameOf : List ℕ → PTy → Type 0
  IsNameOf n x = (s : Spelling) → s.text ≡ n → IsTypeOf x (t.named s t.no_rawtypes)

  -- a type is a name, or is read as another type
  abbrev pub ReadType : PTy → Type 0
  ReadType x = ((n : List ℕ) × ((type_tokens d ps x ≡ id n ∷ []) × IsNameOf n x)) ⊎ Reading N.OtherType (type_tokens d ps x) (IsTypeOf x)

  named_alone : (n : List ℕ) (x : PTy) → IsNameOf n x → Reading N.Type (id n ∷ []) (IsTypeOf x)
  named_alone n x f = produce N.Type 1 (leaf T.Name (id n) (Says n) done) (IsTypeOf x) refl (names n, tt) (λ ls us vs r g. (vs, (r, f (spelling_of vs.0) g.0)))

  pub as_type : (x : PTy) → ReadType x → Reading N.Type (type_tokens d ps x) (IsTypeOf x)
  as_type x (inl p) = subst (λ (ts : List Token). Reading N.Type ts (IsTypeOf x)) (sym p.1.0) (named_alone p.0 x p.1.1)
  as_type x (inr p) = produce N.Type 0 (last N.OtherType (type_tokens d ps x) (IsTypeOf x)) (IsTypeOf x) refl p (λ ls us vs r g. (vs, (r, g)))

  in_brackets : (x : PTy) (ts : List Token) → Reading N.TypeInBrackets ts (IsTypeOf x) → Reading N.OtherType (mark Open ∷ ts) (IsTypeOf x)
  in_brackets x ts p =
      produce N.OtherType 3 (fixed T.OpenBracket (mark Open) (last N.TypeInBrackets ts (IsTypeOf x))) (IsTypeOf x) refl p (λ ls us vs r g. (vs, (r, g)))

  -- a production after the bracket
  bracketed : (x : PTy) (i : ℕ) (r : Row) → all_fit r ≡ true → Given r → Making N.TypeInBrackets i r (IsTypeOf x) → Reading N.OtherType (mark Open ∷ spelled r) (IsTypeOf x)
  bracketed x i r f g m = in_brackets x (spelled r) (produce N.TypeInBrackets i r (IsTypeOf x) f g m)

  -- ---- trees of parts

  more_of : (x : PTy) (xs : PTys) (v : RawType) (vs : List RawType) → IsTypeOf x v → AreTypesOf xs vs → AreTypesOf (more_ptys x xs) (v ∷ vs)
  more_of x xs v vs p q =
      ((λ i. both (λ y ys. ty.more_ptys y ys) (p.0 i) (q.0 i)), ((λ i. p.1 i ++ q.1.0 i), ap (λ (n : ℕ). suc n) q.1.1))

  product_of : (xs : PTys) (vs : List RawType) → AreTypesOf xs vs → IsTypeOf (product xs) (t.product (rawtypes vs))
  product_of xs vs q = (ap (option_map (λ (ts : PTys). ty.product ts)) q.0, q.1.0)

  exit_of : (x y : PTy) (v w : RawType) → IsTypeOf x v → IsTypeOf y w → IsTypeOf (exit x y) (t.exit v w)
  exit_of x y v w p q = ((λ i. both (λ x y. ty.exit x y) (p.0 i) (q.0 i)), (λ i. p.1 i ++ q.1 i))

  module _ (finds : Finds d h) (places : Places d ps) where
    named_of : (k : ℕ) (xs : PTys) (s : Spelling) (vs : List RawType) → parameters_of d k ≡ Some (length (ptys_list xs)) → s.text ≡ type_name d k → AreTypesOf xs vs →
        IsTypeOf (named k xs) (t.named s (rawtypes vs))
    named_of k xs s vs w e q =
        let n = length (ptys_list xs) in
        let no : place_of ps s.text ≡ None = ap (place_of ps) e ∙ places.apart k n w in
        let found : type_of h s.text ≡ Some (k, n) = ap (type_of h) e ∙ finds.types k n w in (
          (λ i. named_by (no i) (found i) (q.1.1 i) (q.0 i)) ∙ ap (λ (b : Bool). both (λ k ts. ty.named k ts) (if b then Some k else None) (Some xs)) (same_number n),
          (λ i. (if is_some (no i) then unless (q.1.1 i == 0) s.span else unless_parts (found i) (q.1.1 i) s.span) ++ q.1.0 i)
              ∙ ap (λ (b : Bool). unless b s.span ++ []) (same_number n),
        )

    parameter_of : (k : ℕ) (s : Spelling) → k < length ps → s.text ≡ parameter_name ps k → IsTypeOf (parameter k) (t.named s t.no_rawtypes)
    parameter_of k s w e =
        let there : place_of ps s.text ≡ Some k = ap (place_of ps) e ∙ places.parameters k w in (
          ap (λ (o : Option ℕ). named_by o (type_of h s.text) 0 (Some no_ptys)) there,
          ap (λ (o : Option ℕ). (if is_some o then unless (0 == 0) s.span else unless_parts (type_of h s.text) 0 s.span) ++ []) there,
        )

    -- ---- types by their forms

    abbrev arguments_tokens : PTys → List Token
    arguments_tokens xs = types_tokens d ps xs ++ mark Close ∷ []

    abbrev factors_tokens : PTys → List Token
    factors_tokens xs = times_tokens d ps xs ++ mark Close ∷ []

    abbrev IsAfter : (List RawType → AfterTypeName) → PTys → AfterTypeName → Type 0
    IsAfter f xs v = (vs : List RawType) × ((v ≡ f vs) × AreTypesOf xs vs)

    after_named : (k : ℕ) (xs : PTys) (s : Spelling) (f : AfterTypeName → RawType) (v : AfterTypeName) → parameters_of d k ≡ Some (length (ptys_list xs)) → s.text ≡ type_name d k →
        ((vs : List RawType) → f (after.Arguments vs) ≡ t.named s (rawtypes vs)) → IsAfter (λ vs. after.Arguments vs) xs v → IsTypeOf (named k xs) (f v)
    after_named k xs s f v w e g p =
        subst (IsTypeOf (named k xs)) (sym (ap f p.1.0 ∙ g p.0)) (named_of k xs s p.0 w e p.1.1)

    named_read : (k : ℕ) (x : PTy) (xs : PTys) → parameters_of d k ≡ Some (length (ptys_list (more_ptys x xs))) → ReadType x →
        Reading N.TypeArguments (arguments_tokens xs) (AreTypesOf xs) → Reading N.OtherType (type_tokens d ps (named k (more_ptys x xs))) (IsTypeOf (named k (more_ptys x xs)))
    named_read k x xs w p q =
        let n = type_name d k in
        let Rest : AfterTypeName → Type 0 = IsAfter (λ vs. after.Arguments vs) (more_ptys x xs) in
        let rest = produce N.AfterTypeName 0 (node N.Type (type_tokens d ps x) (IsTypeOf x) (last N.TypeArguments (arguments_tokens xs) (AreTypesOf xs)))
        Rest refl (as_type x p, q) (λ ls us vs r g. (vs, (r, (vs.0 ∷ vs.1.0, (refl, more_of x xs vs.0 vs.1.0 g.0 g.1))))) in
        bracketed (named k (more_ptys x xs)) 2 (leaf T.Name (id n) (Says n) (last N.AfterTypeName (type_tokens d ps x ++ arguments_tokens xs) Rest)) refl (names n, rest)
        (λ ls us vs r g. (vs, (r, after_named k (more_ptys x xs) (spelling_of vs.0) (after_name vs.0) vs.1.0 w g.0 (λ vs. refl) g.1)))

    exit_read : (x y : PTy) → ReadType x → ReadType y → Reading N.OtherType (type_tokens d ps (exit x y)) (IsTypeOf (exit x y))
    exit_read x y p q =
        bracketed (exit x y) 1
        (fixed T.Exit (word (codes "Exit")) (node N.Type (type_tokens d ps x) (IsTypeOf x) (node N.Type (type_tokens d ps y) (IsTypeOf y) (fixed T.CloseBracket (mark Close) done))))
        refl (as_type x p, (as_type y q, tt)) (λ ls us vs r g. (vs, (r, exit_of x y vs.1.0 vs.1.1.0 g.0 g.1.0)))

    -- `×` and a type, before others
    factor_tokens : (x : PTy) (xs : PTys) → mark Times ∷ (type_tokens d ps x ++ factors_tokens xs) ≡ factors_tokens (more_ptys x xs)
    factor_tokens x xs = ap (λ (ts : List Token). mark Times ∷ ts) (sym (append_assoc (type_tokens d ps x) (times_tokens d ps xs) (mark Close ∷ [])))

    abbrev factor_row : PTy → PTys → Row
    factor_row x xs = fixed T.Times (mark Times) (node N.Type (type_tokens d ps x) (IsTypeOf x) (last N.Factors (factors_tokens xs) (AreTypesOf xs)))

    after_product : (x : PTy) (xs : PTys) (l : Lexeme) (v : AfterTypeName) → IsTypeOf x (t.named (spelling_of l) t.no_rawtypes) → IsAfter (λ vs. after.Factors vs) xs v →
        IsTypeOf (product (more_ptys x xs)) (after_name l v)
    after_product x xs l v p q =
        subst (IsTypeOf (product (more_ptys x xs))) (sym (ap (after_name l) q.1.0)) (product_of (more_ptys x xs) (t.named (spelling_of l) t.no_rawtypes ∷ q.0) (more_of x xs (t.named (spelling_of l) t.no_rawtypes) q.0 p q.1.1))

    product_read : (x y : PTy) (more : PTys) → ReadType x → ReadType y → Reading N.Factors (factors_tokens more) (AreTypesOf more) →
        Reading N.TypeInBrackets (type_tokens d ps x ++ mark Times ∷ (type_tokens d ps y ++ factors_tokens more)) (IsTypeOf (product (more_ptys x (more_ptys y more))))
    product_read x y more (inr p) q m =
        produce N.TypeInBrackets 0 (node N.OtherType (type_tokens d ps x) (IsTypeOf x) (factor_row y more)) (IsTypeOf (product (more_ptys x (more_ptys y more)))) refl (p, (as_type y q, m))
        (λ ls us vs r g. (vs, (r, product_of (more_ptys x (more_ptys y more)) (vs.0 ∷ vs.1.1.0 ∷ vs.1.1.1.0) (more_of x (more_ptys y more) vs.0 (vs.1.1.0 ∷ vs.1.1.1.0) g.0 (more_of y more vs.1.1.0 vs.1.1.1.0 g.1.0 g.1.1)))))
    product_read x y more (inl p) q m =
        let Rest : AfterTypeName → Type 0 = IsAfter (λ vs. after.Factors vs) (more_ptys y more) in
        let rest = produce N.AfterTypeName 1 (factor_row y more) Rest refl (as_type y q, m)
        (λ ls us vs r g. (vs, (r, (vs.1.0 ∷ vs.1.1.0, (refl, more_of y more vs.1.0 vs.1.1.0 g.0 g.1))))) in
        subst (λ (ts : List Token). Reading N.TypeInBrackets (ts ++ mark Times ∷ (type_tokens d ps y ++ factors_tokens more)) (IsTypeOf (product (more_ptys x (more_ptys y more))))) (sym p.1.0)
        (produce N.TypeInBrackets 2 (leaf T.Name (id p.0) (Says p.0) (last N.AfterTypeName (mark Times ∷ (type_tokens d ps y ++ factors_tokens more)) Rest))
        (IsTypeOf (product (more_ptys x (more_ptys y more)))) refl (names p.0, rest)
        (λ ls us vs r g. (vs, (r, after_product x (more_ptys y more) vs.0 vs.1.0 (p.1.1 (spelling_of vs.0) g.0) g.1))))

    mutual
      pub type_read : (x : PTy) → IsType d (length ps) x → ReadType x
      type_read (integer i) w = inr (produce N.OtherType 0 (leaf T.Int (word (int_word i)) (IsInt i) done) (IsTypeOf (integer i)) refl (ints i, tt)
          (λ ls us vs r g. (vs, (r, (ap (λ (j : IntTy). Some (ty.integer j)) g.0, refl)))))
      type_read boolean w = inr (produce N.OtherType 1 (fixed T.Bool (word (codes "Bool")) done) (IsTypeOf boolean) refl tt (λ ls us vs r g. (vs, (r, (refl, refl)))))
      type_read unit w = inr (produce N.OtherType 2 (fixed T.Unit (word (codes "Unit")) done) (IsTypeOf unit) refl tt (λ ls us vs r g. (vs, (r, (refl, refl)))))
      type_read (parameter k) w = inl (parameter_name ps k, (refl, λ s e. parameter_of k s w e))
      type_read (named k no_ptys) w = inl (type_name d k, (refl, λ s e. named_of k no_ptys s [] w.0 e (refl, (refl, refl))))
      type_read (named k (more_ptys x xs)) w = inr (named_read k x xs w.0 (type_read x w.1.0) (arguments_read xs w.1.1))
      type_read (exit x y) w = inr (exit_read x y (type_read x w.0) (type_read y w.1))
      type_read (product no_ptys) w = let l = w.0 in absurd (omega arith)
      type_read (product (more_ptys x no_ptys)) w = let l = w.0 in absurd (omega arith)
      type_read (product (more_ptys x (more_ptys y more))) w =
          inr (in_brackets (product (more_ptys x (more_ptys y more))) (type_tokens d ps x ++ factors_tokens (more_ptys y more))
          (subst (λ (ts : List Token). Reading N.TypeInBrackets (type_tokens d ps x ++ ts) (IsTypeOf (product (more_ptys x (more_ptys y more))))) (factor_tokens y more)
          (product_read x y more (type_read x w.1.0) (type_read y w.1.1.0) (factors_read more w.1.1.1))))

      arguments_read : (xs : PTys) → AreTypes d (length ps) xs → Reading N.TypeArguments (arguments_tokens xs) (AreTypesOf xs)
      arguments_read no_ptys w = produce N.TypeArguments 0 (fixed T.CloseBracket (mark Close) done) (AreTypesOf no_ptys) refl tt (λ ls us vs r g. (vs, (r, (refl, (refl, refl)))))
      arguments_read (more_ptys x xs) w =
          subst (λ (ts : List Token). Reading N.TypeArguments ts (AreTypesOf (more_ptys x xs))) (sym (append_assoc (type_tokens d ps x) (types_tokens d ps xs) (mark Close ∷ [])))
          (produce N.TypeArguments 1 (node N.Type (type_tokens d ps x) (IsTypeOf x) (last N.TypeArguments (arguments_tokens xs) (AreTypesOf xs))) (AreTypesOf (more_ptys x xs)) refl
          (as_type x (type_read x w.0), arguments_read xs w.1) (λ ls us vs r g. (vs, (r, more_of x xs vs.0 vs.1.0 g.0 g.1))))

      factors_read : (xs : PTys) → AreTypes d (length ps) xs → Reading N.Factors (factors_tokens xs) (AreTypesOf xs)
      factors_read no_ptys w = produce N.Factors 0 (fixed T.CloseBracket (mark Close) done) (AreTypesOf no_ptys) refl tt (λ ls us vs r g. (vs, (r, (refl, (refl, refl)))))
      factors_read (more_ptys x xs) w =
          subst (λ (ts : List Token). Reading N.Factors ts (AreTypesOf (more_ptys x xs))) (factor_tokens x xs)
          (produce N.Factors 1 (factor_row x xs) (AreTypesOf (more_ptys x xs)) refl (as_type x (type_read x w.0), factors_read xs w.1)
          (λ ls us vs r g. (vs, (r, more_of x xs vs.1.0 vs.1.1.0 g.0 g.1))))
