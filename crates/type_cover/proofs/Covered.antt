-- The split by columns is the test with all values.
use Rattle.std.proofs.Common.{◌≡◌, ℕ, zero, suc, ◌+◌, refl, ap, sym, ◌∙◌, arith}
use Rattle.std.specs.Prelude.{Bool, true, false, ◌&&◌, ◌||◌, if◌then◌else◌, Option, Some, None, List, [], ◌∷◌, map, slice_get, ℤ}
use Rattle.std.specs.List.{list_all, list_any}
use Rattle.std.specs.Ordering.{int_eq}
use Rattle.std.proofs.lemmas.Bool.{or_left, or_right}
use Rattle.core_ty.specs.declared.decl.TypeDecl.{TypeDecl}
use Rattle.core_ty.specs.declared.decl.Variant.{Variant}
use Rattle.type_rules.specs.Coverage.{is_covered, levels, meets, named_by, named_in}
use Rattle.type_rules.specs.Fields.{fields_at, variant_fields}
use Rattle.type_rules.specs.Skeletons.{Skeleton, anything, content, field_types, level, made, numeral, of_declared, of_variants, other, rows, skeletons}
use Rattle.type_cover.specs.Rows as r
use Rattle.type_cover.specs.Rows.{Row, begins_open, if_met, open_rows, row_with, rows_at}
use Rattle.type_cover.specs.Splitting.{Onward, as_row, at_way, by_ways, is_void, some_row, split, splits_whole}
use Rattle.type_cover.specs.Suits.{PatternsSuit}
use Rattle.type_cover.specs.Ways.{number_way, numbers_first, declared_ways, variant_ways, ways}
use Rattle.type_cover.proofs.Columns.{Splits, made_columns}
use Rattle.type_cover.proofs.Empty.{void_is}
use Rattle.type_cover.proofs.Kept.{boolean_kept, kept, numeral_kept, open_kept, other_kept, unknown_kept}
use Rattle.type_cover.proofs.Meeting.{part_types}
use Rattle.type_cover.proofs.NamedNumbers.{is_in, known_first, number_itself, numbers_kept}
use Rattle.type_cover.proofs.Suiting.{HeadsFit}
use Rattle.type_cover.proofs.Tests.{Each, all_append, all_map, all_one, each_after, each_before, each_then, with_true}
use Rattle.rust_ast.specs.SpelledPatterns as q
use Rattle.core_ty.specs.Types as t

abbrev Known : List ℤ → ℤ → Type 0
Known zs z = is_in zs z ≡ true

module _ (ds : List TypeDecl) (zs : List ℤ) where
  -- one level, where the one below is as it should be
  module _ (f : t.Ty → List Row → Onward → Bool) (g : t.Ty → List Skeleton) (below : Splits ds (Known zs) f g) where
    abbrev Whole : List Row → Onward → t.Ty → Type 0
    Whole all onward y = by_ways f (ways ds (numbers_first all) y) all onward ≡ list_all (λ k. onward (kept k all)) (level g ds zs y)

    numbers_whole : (x : t.Ty) (all : List Row) (onward : Onward) → HeadsFit ds (Known zs) x all →
        list_all (at_way f all onward) ((r.other, []) ∷ map number_way (numbers_first all)) ≡ list_all (λ k. onward (kept k all)) (other ∷ map numeral zs)
    numbers_whole x all onward h =
        (λ i. onward (other_kept all i) && all_map (at_way f all onward) number_way (numbers_first all) i)
        ∙ ap (λ F. onward (kept other all) && list_all F (numbers_first all)) (λ i z. onward (numeral_kept z all i))
        ∙ numbers_kept onward all zs (known_first ds (Known zs) x all h)
        ∙ ap (λ b. onward (kept other all) && b) (sym (all_map (λ k. onward (kept k all)) numeral zs))

    one_on : (k i : ℕ) → (k + 1) + i ≡ k + suc i
    one_on k i = omega arith

    plus_none : (k : ℕ) → k + 0 ≡ k
    plus_none k = omega arith

    variants_whole : (x : t.Ty) (args : List t.Ty) (d : ℕ) (decl : TypeDecl) (k : ℕ) (vs : List Variant) (all : List Row) (onward : Onward) →
        content (content x) ≡ content x → ((v : ℕ) → part_types ds (content x) v ≡ field_types args (fields_at (Some decl) v)) →
        ((i : ℕ) → slice_get decl.variants (k + i) ≡ slice_get vs i) → HeadsFit ds (Known zs) x all →
        list_all (at_way f all onward) (variant_ways args k vs) ≡ list_all (λ s. onward (kept s all)) (of_variants g args k vs)
    variants_whole x args d decl k [] all onward e parts at h = refl
    variants_whole x args d decl k (v ∷ vs) all onward e parts at h =
        let here : slice_get decl.variants k ≡ Some v = ap (λ i. slice_get decl.variants i) (sym (plus_none k)) ∙ at 0 in
        let types : field_types args v.fields ≡ part_types ds (content x) k = sym (parts k ∙ ap (λ o. field_types args (variant_fields o)) here) in
        (λ i. made_columns ds (Known zs) f g below x k (field_types args v.fields) all onward e types h i
        && variants_whole x args d decl (k + 1) vs all onward e parts (λ j. ap (λ n. slice_get decl.variants n) (one_on k j) ∙ at (suc j)) h i)
        ∙ sym (all_append (λ s. onward (kept s all)) (map (made k) (rows g (field_types args v.fields))) (of_variants g args (k + 1) vs))

    none_on : (i : ℕ) → 0 + i ≡ i
    none_on i = omega arith

    declared_whole : (x : t.Ty) (args : List t.Ty) (d : ℕ) (o : Option TypeDecl) (all : List Row) (onward : Onward) →
        content (content x) ≡ content x → ((v : ℕ) → part_types ds (content x) v ≡ field_types args (fields_at o v)) →
        HeadsFit ds (Known zs) x all →
        list_all (at_way f all onward) (declared_ways args o) ≡ list_all (λ s. onward (kept s all)) (of_declared g args o)
    declared_whole x args d None all onward e parts h = refl
    declared_whole x args d (Some decl) all onward e parts h =
        variants_whole x args d decl 0 decl.variants all onward e parts (λ i. ap (λ n. slice_get decl.variants n) (none_on i)) h

    whole : (x y : t.Ty) (all : List Row) (onward : Onward) → content x ≡ y → HeadsFit ds (Known zs) x all → Whole all onward y
    whole x (t.int i) all onward e h = numbers_whole x all onward h
    whole x t.bool all onward e h =
        λ i. onward (boolean_kept true all i) && (onward (boolean_kept false all i) && true)
    whole x t.unit all onward e h =
        ap (λ b. b && true) (made_columns ds (Known zs) f g below x 0 [] all onward (ap content e ∙ sym e) (ap (λ y. part_types ds y 0) (sym e)) h)
        ∙ with_true (list_all (λ k. onward (kept k all)) (level g ds zs t.unit))
    whole x (t.tuple xs) all onward e h =
        ap (λ b. b && true) (made_columns ds (Known zs) f g below x 0 (t.tys_list xs) all onward (ap content e ∙ sym e) (ap (λ y. part_types ds y 0) (sym e)) h)
        ∙ with_true (list_all (λ k. onward (kept k all)) (level g ds zs (t.tuple xs)))
    whole x (t.named d args) all onward e h =
        declared_whole x (t.tys_list args) d.0 (slice_get ds d.0) all onward (ap content e ∙ sym e) (λ v. ap (λ y. part_types ds y v) e) h
    whole x (t.param k) all onward e h = ap onward (unknown_kept all) ∙ sym (with_true (onward (kept anything all)))
    whole x (t.boxed y) all onward e h = ap onward (unknown_kept all) ∙ sym (with_true (onward (kept anything all)))
    whole x (t.ref r m y) all onward e h = ap onward (unknown_kept all) ∙ sym (with_true (onward (kept anything all)))

  -- a column in which all is open
  open_whole : (n : ℕ) (x : t.Ty) (all : List Row) (onward : Onward) → list_all begins_open all ≡ true →
      (is_void ds n x || onward (open_rows all)) ≡ list_all (λ k. onward (kept k all)) (skeletons ds zs n x)
  open_whole n x all onward o =
      ap (λ b. b || onward (open_rows all)) (void_is ds zs n x)
      ∙ sym (all_one (onward (open_rows all)) (skeletons ds zs n x))
      ∙ ap (λ F. list_all F (skeletons ds zs n x)) (λ i k. onward (sym (open_kept k all o) i))

  by_open : (b : Bool) (x y z : Bool) → (b ≡ true → x ≡ z) → y ≡ z → (if b then x else y) ≡ z
  by_open true x y z f e = f refl
  by_open false x y z f e = e

  -- one column is tested with all values down to a level
  pub column_whole : (n : ℕ) (x : t.Ty) (all : List Row) (onward : Onward) → HeadsFit ds (Known zs) x all →
      split ds n x all onward ≡ list_all (λ k. onward (kept k all)) (skeletons ds zs n x)
  column_whole zero x all onward h = ap onward (unknown_kept all) ∙ sym (with_true (onward (kept anything all)))
  column_whole (suc n) x all onward h =
      by_open (list_all begins_open all) (is_void ds (suc n) x || onward (open_rows all))
      (by_ways (split ds n) (ways ds (numbers_first all) (content x)) all onward)
      (list_all (λ k. onward (kept k all)) (skeletons ds zs (suc n) x)) (open_whole (suc n) x all onward)
      (whole (split ds n) (skeletons ds zs n) (λ y rest next fit. column_whole n y rest next fit) x (content x) all onward refl h)

-- ---- the patterns of a match

known_itself : (zs : List ℤ) → Each (Known zs) zs
known_itself [] = tt
known_itself (z ∷ zs) =
    (or_left (int_eq z z) (is_in zs z) (number_itself z z refl), each_then zs (λ y h. or_right (int_eq y z) (is_in zs y) h) (known_itself zs))

heads_fit : (ds : List TypeDecl) (zs : List ℤ) (x : t.Ty) (ps : List q.Pat) → PatternsSuit ds ps x → Each (Known zs) (named_by ps) →
    HeadsFit ds (Known zs) x (map as_row ps)
heads_fit ds zs x [] h k = tt
heads_fit ds zs x (p ∷ ps) h k =
    ((h.0, each_before (Known zs) (named_in p) (named_by ps) k), heads_fit ds zs x ps h.1 (each_after (Known zs) (named_in p) (named_by ps) k))

one_row : (b : Bool) (rows : List Row) → some_row (row_with (if_met b []) [] rows) ≡ (b || some_row rows)
one_row true rows = refl
one_row false rows = refl

some_kept : (k : Skeleton) (ps : List q.Pat) → some_row (kept k (map as_row ps)) ≡ list_any (λ p. meets p k) ps
some_kept k [] = refl
some_kept k (p ∷ ps) = one_row (meets p k) (kept k (map as_row ps)) ∙ ap (λ b. meets p k || b) (some_kept k ps)

-- the split says whether each value meets a pattern
pub split_covers : (ds : List TypeDecl) (x : t.Ty) (ps : List q.Pat) → PatternsSuit ds ps x → splits_whole ds x ps ≡ is_covered ds x ps
unfolding is_covered
split_covers ds x ps h =
    column_whole ds (named_by ps) (levels ps) x (map as_row ps) some_row (heads_fit ds (named_by ps) x ps h (known_itself (named_by ps)))
    ∙ ap (λ F. list_all F (skeletons ds (named_by ps) (levels ps) x)) (λ i k. some_kept k ps i)
