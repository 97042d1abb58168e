-- Rows whose patterns suit the types of their columns keep doing so.
use Rattle.std.proofs.Common.{◌≡◌, ℕ, suc, ◌+◌, ◌⊎◌, inl, inr, refl, ap, sym, subst, ◌∙◌, arith}
use Rattle.std.specs.Prelude.{Bool, true, false, ◌==◌, Option, Some, None, option_map, List, [], ◌∷◌, ◌++◌, length, slice_get, ℤ, ⊤}
use Rattle.std.proofs.lemmas.Bool.{cases_eq, eqb-true}
use Rattle.core_ty.specs.Substitution.{substitute}
use Rattle.core_ty.specs.declared.decl.TypeDecl.{TypeDecl}
use Rattle.type_rules.specs.Coverage.{meets, named_in, named_in_all, named_in_fields}
use Rattle.type_rules.specs.Fields.{fields_of}
use Rattle.type_rules.specs.FitsPatterns.{pat_count}
use Rattle.type_rules.specs.Frames.{field_at}
use Rattle.type_rules.specs.Skeletons.{Skeleton, Skeletons, content, field_types}
use Rattle.type_cover.specs.Rows as r
use Rattle.type_cover.specs.Rows.{Row, field_pattern, fields_from, if_met, left_of, open_parts, row_with, rows_at}
use Rattle.type_cover.specs.Suits.{AllSuit, FieldsSuit, Suits}
use Rattle.type_cover.proofs.FieldsMet.{field_here, field_there}
use Rattle.type_cover.proofs.Kept.{HeadsSay, kept, skeleton_count}
use Rattle.type_cover.proofs.Meeting.{fields_there, part_types, says, types_counted}
use Rattle.type_cover.proofs.Tests.{Each, each_after, each_before}
use Rattle.rust_ast.specs.SpelledPatterns as q
use Rattle.core_ty.specs.Types as t

-- N is what is known of each number that a pattern names
module _ (ds : List TypeDecl) (N : ℤ → Type 0) where
  abbrev pub Fit : t.Ty → q.Pat → Type 0
  Fit x p = Suits ds p (Some x) × Each N (named_in p)

  -- the row begins with a pattern for each of these types
  abbrev pub RowSuits : List t.Ty → Row → Type 0
  RowSuits [] row = ⊤
  RowSuits (x ∷ xs) [] = ⊥
  RowSuits (x ∷ xs) (p ∷ ps) = Fit x p × RowSuits xs ps

  abbrev pub RowsSuit : List t.Ty → List Row → Type 0
  RowsSuit xs [] = ⊤
  RowsSuit xs (row ∷ rows) = RowSuits xs row × RowsSuit xs rows

  abbrev pub HeadsFit : t.Ty → List Row → Type 0
  HeadsFit x [] = ⊤
  HeadsFit x ([] ∷ rows) = HeadsFit x rows
  HeadsFit x ((p ∷ ps) ∷ rows) = Fit x p × HeadsFit x rows

  abbrev LeftSuits : List t.Ty → Option Row → Type 0
  LeftSuits xs None = ⊤
  LeftSuits xs (Some ps) = RowSuits xs ps

  pub heads_of : (x : t.Ty) (xs : List t.Ty) (rows : List Row) → RowsSuit (x ∷ xs) rows → HeadsFit x rows
  heads_of x xs [] h = tt
  heads_of x xs ([] ∷ rows) h = heads_of x xs rows h.1
  heads_of x xs ((p ∷ ps) ∷ rows) h = (h.0.0, heads_of x xs rows h.1)

  put_on : (b : Bool) (xs : List t.Ty) (ps : Row) (rows : List Row) → RowSuits xs ps → RowsSuit xs rows → RowsSuit xs (row_with (if_met b []) ps rows)
  put_on true xs ps rows h k = (h, k)
  put_on false xs ps rows h k = k

  pub kept_suit : (x : t.Ty) (xs : List t.Ty) (k : Skeleton) (rows : List Row) → RowsSuit (x ∷ xs) rows → RowsSuit xs (kept k rows)
  kept_suit x xs k [] h = tt
  kept_suit x xs k ([] ∷ rows) h = absurd h.0
  kept_suit x xs k ((p ∷ ps) ∷ rows) h = put_on (meets p k) xs ps (kept k rows) h.0.1 (kept_suit x xs k rows h.1)

  -- ---- the parts of a pattern

  open_suits : (xs : List t.Ty) → RowSuits xs (open_parts (length xs))
  open_suits [] = tt
  open_suits (x ∷ xs) = ((tt, tt), open_suits xs)

  tuple_suits : (ps : q.Pats) (xs : List t.Ty) → pat_count ps ≡ length xs → AllSuit ds ps xs → Each N (named_in_all ps) → RowSuits xs (q.pats_list ps)
  tuple_suits q.no_pats [] e h k = tt
  tuple_suits q.no_pats (x ∷ xs) e h k = absurd (omega (arith, e))
  tuple_suits (q.more_pats p ps) [] e h k = tt
  tuple_suits (q.more_pats p ps) (x ∷ xs) e h k =
      ((h.0, each_before N (named_in p) (named_in_all ps) k), tuple_suits ps xs (omega (arith, e)) h.1 (each_after N (named_in p) (named_in_all ps) k))

  abbrev FitAt : Option t.Ty → q.Pat → Type 0
  FitAt o p = Suits ds p o × Each N (named_in p)

  field_or_later : (d v : ℕ) (args : List t.Ty) (j k : ℕ) (p : q.Pat) (ps : q.FieldPats) → (j ≡ k) ⊎ (j ≡ k → ⊥) → FitAt (field_at ds d v args j) p →
      FitAt (field_at ds d v args k) (field_pattern ps k) → FitAt (field_at ds d v args k) (field_pattern (q.more_fieldpats j p ps) k)
  field_or_later d v args j k p ps (inl e) h more =
      subst (λ f. FitAt (field_at ds d v args k) f) (sym (field_here j k p ps e)) (subst (λ i. FitAt (field_at ds d v args i) p) e h)
  field_or_later d v args j k p ps (inr x) h more = subst (λ f. FitAt (field_at ds d v args k) f) (sym (field_there j k p ps x)) more

  field_suits : (d v : ℕ) (args : List t.Ty) (ps : q.FieldPats) (k : ℕ) → FieldsSuit ds d v args ps → Each N (named_in_fields ps) →
      FitAt (field_at ds d v args k) (field_pattern ps k)
  field_suits d v args q.no_fieldpats k h n = (tt, tt)
  field_suits d v args (q.more_fieldpats j p ps) k h n =
      field_or_later d v args j k p ps (cases_eq j k) (h.0, each_before N (named_in p) (named_in_fields ps) n)
      (field_suits d v args ps k h.1 (each_after N (named_in p) (named_in_fields ps) n))

  abbrev put : List t.Ty → (List ℕ × t.Ty) → t.Ty
  put args f = substitute args f.1

  fields_suit : (d v : ℕ) (args : List t.Ty) (ps : q.FieldPats) (fs : List (List ℕ × t.Ty)) (j : ℕ) →
      ((i : ℕ) → slice_get (fields_of ds d v) (j + i) ≡ slice_get fs i) → FieldsSuit ds d v args ps → Each N (named_in_fields ps) →
      RowSuits (field_types args fs) (fields_from ps j (length fs))
  fields_suit d v args ps [] j at h n = tt
  fields_suit d v args ps (f ∷ fs) j at h n =
      let here : slice_get (fields_of ds d v) j ≡ Some f = ap (λ i. slice_get (fields_of ds d v) i) (plus_none j) ∙ at 0 in (
        subst (λ o. FitAt o (field_pattern ps j)) (ap (λ o. option_map (put args) o) here) (field_suits d v args ps j h n),
        fields_suit d v args ps fs (suc j) (λ i. ap (λ k. slice_get (fields_of ds d v) k) (one_on j i) ∙ at (suc i)) h n,
      )
    where
      plus_none : (j : ℕ) → j ≡ j + 0
      plus_none j = omega arith

      one_on : (j i : ℕ) → suc j + i ≡ j + suc i
      one_on j i = omega arith

  met_suits : (b : Bool) (xs : List t.Ty) (ps : Row) → (b ≡ true → RowSuits xs ps) → LeftSuits xs (if_met b ps)
  met_suits true xs ps h = h refl
  met_suits false xs ps h = tt

  variant_suits : (args : List t.Ty) (d e v w n : ℕ) (ps : q.FieldPats) → d ≡ e → n ≡ length (field_types args (fields_of ds e v)) →
      FieldsSuit ds d w args ps → Each N (named_in_fields ps) → v ≡ w → RowSuits (field_types args (fields_of ds e v)) (fields_from ps 0 n)
  variant_suits args d e v w n ps same l h k here =
      let there : fields_of ds d w ≡ fields_of ds e v = ap (λ i. fields_of ds i w) same ∙ ap (λ i. fields_of ds e i) (sym here) in
      subst (λ fs. RowSuits (field_types args fs) (fields_from ps 0 n)) there (
      subst (λ m. RowSuits (field_types args (fields_of ds d w)) (fields_from ps 0 m)) (sym (fields_there ds args d e v w n same here l)) (
      fields_suit d w args ps (fields_of ds d w) 0 (λ i. ap (λ k. slice_get (fields_of ds d w) k) (no_more i)) h k))
    where
      no_more : (i : ℕ) → 0 + i ≡ i
      no_more i = omega arith

  left_suits : (p : q.Pat) (x : t.Ty) (v n : ℕ) → Fit x p → content (content x) ≡ content x → n ≡ length (part_types ds (content x) v) →
      LeftSuits (part_types ds (content x) v) (left_of (r.made v n) p)
  left_suits q.wild x v n h e l =
      subst (λ k. RowSuits (part_types ds (content x) v) (open_parts k)) (sym l) (open_suits (part_types ds (content x) v))
  left_suits (q.bind s k m) x v n h e l =
      subst (λ k. RowSuits (part_types ds (content x) v) (open_parts k)) (sym l) (open_suits (part_types ds (content x) v))
  left_suits (q.number z) x v n h e l = tt
  left_suits (q.truth true) x v n h e l = tt
  left_suits (q.truth false) x v n h e l = tt
  left_suits (q.tuple ps) t.unit v n h e l = met_suits (v == 0) [] (q.pats_list ps) (λ b. tt)
  left_suits (q.tuple ps) (t.tuple xs) v n h e l =
      met_suits (v == 0) (t.tys_list xs) (q.pats_list ps) (λ b. tuple_suits ps (t.tys_list xs) (h.0.0 ∙ types_counted xs) h.0.1 h.1)
  left_suits (q.tuple ps) x v n h e l = absurd h.0.0
  left_suits (q.construct d w ps) (t.named k args) v n h e l =
      met_suits (v == w) (field_types (t.tys_list args) (fields_of ds k.0 v)) (fields_from ps 0 n)
      (λ b. variant_suits (t.tys_list args) d.0 k.0 v w n ps h.0.0 l h.0.2 h.1 (eqb-true v w b))
  left_suits (q.construct d w ps) x v n h e l = absurd h.0.0
  left_suits (q.through m p) x v n h e l =
      subst (λ y. LeftSuits (part_types ds y v) (left_of (r.made v n) p)) e
      (left_suits p (content x) v n h (ap content e) (l ∙ ap (λ y. length (part_types ds y v)) (sym e)))

  -- ---- rows at a constructor

  suits_with : (xs : List t.Ty) (ps more : Row) → RowSuits xs ps → RowSuits xs (ps ++ more)
  suits_with [] ps more h = tt
  suits_with (x ∷ xs) [] more h = absurd h
  suits_with (x ∷ xs) (p ∷ ps) more h = (h.0, suits_with xs ps more h.1)

  put_suits : (xs : List t.Ty) (o : Option Row) (ps : Row) (rows : List Row) → LeftSuits xs o → RowsSuit xs rows → RowsSuit xs (row_with o ps rows)
  put_suits xs None ps rows h k = k
  put_suits xs (Some more) ps rows h k = (suits_with xs more ps h, k)

  pub rows_suit : (x : t.Ty) (v n : ℕ) (rows : List Row) → content (content x) ≡ content x → n ≡ length (part_types ds (content x) v) →
      HeadsFit x rows → RowsSuit (part_types ds (content x) v) (rows_at (r.made v n) rows)
  rows_suit x v n [] e l h = tt
  rows_suit x v n ([] ∷ rows) e l h = rows_suit x v n rows e l h
  rows_suit x v n ((p ∷ ps) ∷ rows) e l h =
      put_suits (part_types ds (content x) v) (left_of (r.made v n) p) ps (rows_at (r.made v n) rows) (left_suits p x v n h.0 e l) (rows_suit x v n rows e l h.1)

  pub heads_say : (x : t.Ty) (v n : ℕ) (ks : Skeletons) (rows : List Row) → content (content x) ≡ content x → n ≡ length (part_types ds (content x) v) →
      skeleton_count ks ≡ n → HeadsFit x rows → HeadsSay v n ks rows
  heads_say x v n ks [] e l c h = tt
  heads_say x v n ks ([] ∷ rows) e l c h = heads_say x v n ks rows e l c h
  heads_say x v n ks ((p ∷ ps) ∷ rows) e l c h = (says ds p x v n ks h.0.0 e l c, heads_say x v n ks rows e l c h.1)
