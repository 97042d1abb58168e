-- Columns that are split one after the other are tested with all rows of parts.
use Rattle.std.proofs.Common.{◌≡◌, ℕ, suc, refl, ap, sym, subst, ◌∙◌}
use Rattle.std.specs.Prelude.{Bool, ◌&&◌, List, [], ◌∷◌, length, map, ℤ}
use Rattle.std.specs.List.{list_all}
use Rattle.core_ty.specs.declared.decl.TypeDecl.{TypeDecl}
use Rattle.type_rules.specs.Skeletons.{Skeleton, Skeletons, content, made, more_skeletons, put_before, rows}
use Rattle.type_cover.specs.Rows as r
use Rattle.type_cover.specs.Rows.{Row, rows_at}
use Rattle.type_cover.specs.Splitting.{Onward, columns}
use Rattle.type_cover.proofs.Kept.{kept, kept_all, made_kept, skeleton_count}
use Rattle.type_cover.proofs.Meeting.{part_types}
use Rattle.type_cover.proofs.Suiting.{HeadsFit, RowsSuit, heads_of, heads_say, kept_suit, rows_suit}
use Rattle.type_cover.proofs.Tests.{Each, all_append, all_map, all_same, each_append, each_map, each_then, with_true}
use Rattle.core_ty.specs.Types as t

-- ---- all rows of parts

all_before : (F : Skeletons → Bool) (xs : List Skeleton) (more : List Skeletons) →
    list_all F (put_before xs more) ≡ list_all (λ k. list_all (λ ks. F (more_skeletons k ks)) more) xs
all_before F [] more = refl
all_before F (x ∷ xs) more =
    all_append F (map (more_skeletons x) more) (put_before xs more) ∙ (λ i. all_map F (more_skeletons x) more i && all_before F xs more i)

abbrev HasCount : ℕ → Skeletons → Type 0
HasCount n ks = skeleton_count ks ≡ n

counted_before : (n : ℕ) (xs : List Skeleton) (more : List Skeletons) → Each (HasCount n) more → Each (HasCount (suc n)) (put_before xs more)
counted_before n [] more h = tt
counted_before n (x ∷ xs) more h =
    each_append (HasCount (suc n)) (map (more_skeletons x) more) (put_before xs more)
    (each_map (HasCount (suc n)) (more_skeletons x) more (each_then more (λ ks e. ap suc e) h)) (counted_before n xs more h)

rows_counted : (g : t.Ty → List Skeleton) (xs : List t.Ty) → Each (HasCount (length xs)) (rows g xs)
rows_counted g [] = (refl, tt)
rows_counted g (x ∷ xs) = counted_before (length xs) (g x) (rows g xs) (rows_counted g xs)

-- ---- columns

module _ (ds : List TypeDecl) (N : ℤ → Type 0) (f : t.Ty → List Row → Onward → Bool) (g : t.Ty → List Skeleton) where
  -- one column is tested with all values
  abbrev pub Splits : Type 0
  Splits = (x : t.Ty) (rows : List Row) (onward : Onward) → HeadsFit ds N x rows → f x rows onward ≡ list_all (λ k. onward (kept k rows)) (g x)

  all_columns : Splits → (xs : List t.Ty) (all : List Row) (onward : Onward) → RowsSuit ds N xs all →
      columns f xs all onward ≡ list_all (λ ks. onward (kept_all ks all)) (rows g xs)
  all_columns s [] all onward h = sym (with_true (onward all))
  all_columns s (x ∷ xs) all onward h =
      s x all (λ more. columns f xs more onward) (heads_of ds N x xs all h)
      ∙ ap (λ F. list_all F (g x)) (λ i k. all_columns s xs (kept k all) onward (kept_suit ds N x xs k all h) i)
      ∙ sym (all_before (λ ks. onward (kept_all ks all)) (g x) (rows g xs))

  -- a constructor with parts
  pub made_columns : Splits → (x : t.Ty) (v : ℕ) (xs : List t.Ty) (all : List Row) (onward : Onward) → content (content x) ≡ content x →
      xs ≡ part_types ds (content x) v → HeadsFit ds N x all →
      columns f xs (rows_at (r.made v (length xs)) all) onward ≡ list_all (λ k. onward (kept k all)) (map (made v) (rows g xs))
  made_columns s x v xs all onward e l h =
      all_columns s xs (rows_at (r.made v (length xs)) all) onward
      (subst (λ ys. RowsSuit ds N ys (rows_at (r.made v (length xs)) all)) (sym l) (rows_suit ds N x v (length xs) all e (ap length l) h))
      ∙ all_same (λ ks. onward (kept_all ks (rows_at (r.made v (length xs)) all))) (λ ks. onward (kept (made v ks) all)) (rows g xs)
      (each_then (rows g xs) (λ ks c. ap onward (sym (made_kept v (length xs) ks all (heads_say ds N x v (length xs) ks all e (ap length l) c h)))) (rows_counted g xs))
      ∙ sym (all_map (λ k. onward (kept k all)) (made v) (rows g xs))
