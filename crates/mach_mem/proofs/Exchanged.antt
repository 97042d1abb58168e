-- Lists of trees in code, and the trees' own lists.
use Rattle.std.proofs.Common.{◌≡◌, ℕ, zero, suc, List, [], ◌∷◌, slice_get, slice_set, Option, Some, None, Result, Ok, Err, option_map, option_and_then, refl, sym, ap, ◌∙◌}
use Rattle.std.proofs.lemmas.Option.{none-some, same_Some}
use Rattle.aen_base.specs.declared.ids.TypeId.{TypeId}
use Rattle.mach_mem.specs.Trees.{MTree, MTrees, mtrees, more_mtrees, tuple, ctor}
use Rattle.mach_mem.specs.declared.trees.MTreeNode.{MTreeNode}
use Rattle.mach_mem.specs.declared.trees.MTreeNode.TheVariants as MTree_
use Rattle.mach_mem.specs.TreesView.{mtree_of}
use Rattle.mach_mem.specs.Memory.{nth, set_nth, child, set_child}
use Rattle.mach_mem.specs.Steps.{part_at, with_part_at, with_part_in, Exchanges}

pub nth_list : (ts : List MTree) (k : ℕ) → nth (mtrees ts) k ≡ slice_get ts k
nth_list [] k = refl
nth_list (t ∷ ts) zero = refl
nth_list (t ∷ ts) (suc k) = nth_list ts k

pub set_nth_list : (ts : List MTree) (k : ℕ) (x old : MTree) → slice_get ts k ≡ Some old → set_nth (mtrees ts) k x ≡ Some (mtrees (slice_set ts k x))
set_nth_list [] k x old e = absurd (none-some old e)
set_nth_list (t ∷ ts) zero x old e = refl
set_nth_list (t ∷ ts) (suc k) x old e = ap (option_map (more_mtrees t)) (set_nth_list ts k x old e)

-- a form with these parts, one of which is written in: as the list of parts is
pub with_part_list : (f : MTrees → MTree) (ts : List MTree) (k : ℕ) (ks : List ℕ) (x : MTree) →
    option_and_then (λ part. option_and_then (λ p. option_map f (set_nth (mtrees ts) k p)) (with_part_at ks x part)) (nth (mtrees ts) k) ≡ option_map (λ us. f (mtrees us)) (with_part_in ks x ts k)
with_part_list f ts k ks x =
    ap (option_and_then (λ part. option_and_then (λ p. option_map f (set_nth (mtrees ts) k p)) (with_part_at ks x part))) (nth_list ts k)
    ∙ by (slice_get ts k) refl
  where
    made : (part : MTree) (o : Option MTree) → slice_get ts k ≡ Some part → option_and_then (λ p. option_map f (set_nth (mtrees ts) k p)) o ≡ option_map (λ us. f (mtrees us)) (option_map (slice_set ts k) o)
    made part None e = refl
    made part (Some p) e = ap (option_map f) (set_nth_list ts k p part e)

    by : (o : Option MTree) → slice_get ts k ≡ o → option_and_then (λ part. option_and_then (λ p. option_map f (set_nth (mtrees ts) k p)) (with_part_at ks x part)) o
        ≡ option_map (λ us. f (mtrees us)) (option_and_then (λ part. option_map (slice_set ts k) (with_part_at ks x part)) o)
    by None e = refl
    by (Some part) e = made part (with_part_at ks x part) e

-- an exchange in a part of something is one in the whole
module _ {A B : Type 0} (f : A → B) (got whole_got : Option MTree) (made : Option A) (whole_made : Option B) (old new : A) (x : MTree) where
  pub exchanged : (r : Result MTree MTree) → whole_got ≡ got → whole_made ≡ option_map f made → Exchanges got made old new x r → Exchanges whole_got whole_made (f old) (f new) x r
  exchanged (Ok o) p q h = (p ∙ h.0, q ∙ ap (option_map f) h.1)
  exchanged (Err back) p q h = (h.0, q ∙ ap (option_map f) h.1, ap f h.2)

module _ (k : ℕ) (ks : List ℕ) (ts us : List MTree) (x : MTree) (r : Result MTree MTree)
    (h : Exchanges (option_and_then (part_at ks) (slice_get ts k)) (with_part_in ks x ts k) ts us x r) where
  in_tuple : Exchanges (part_at (k ∷ ks) (tuple (mtrees ts))) (with_part_at (k ∷ ks) x (tuple (mtrees ts))) (tuple (mtrees ts)) (tuple (mtrees us)) x r
  in_tuple =
      exchanged (λ vs. tuple (mtrees vs)) (option_and_then (part_at ks) (slice_get ts k)) (part_at (k ∷ ks) (tuple (mtrees ts))) (with_part_in ks x ts k)
      (with_part_at (k ∷ ks) x (tuple (mtrees ts))) ts us x r (ap (option_and_then (part_at ks)) (nth_list ts k)) (with_part_list tuple ts k ks x) h

  in_ctor : (d : TypeId) (v : ℕ) → Exchanges (part_at (k ∷ ks) (ctor d v (mtrees ts))) (with_part_at (k ∷ ks) x (ctor d v (mtrees ts))) (ctor d v (mtrees ts)) (ctor d v (mtrees us)) x r
  in_ctor d v =
      exchanged (λ vs. ctor d v (mtrees vs)) (option_and_then (part_at ks) (slice_get ts k)) (part_at (k ∷ ks) (ctor d v (mtrees ts))) (with_part_in ks x ts k)
      (with_part_at (k ∷ ks) x (ctor d v (mtrees ts))) ts us x r (ap (option_and_then (part_at ks)) (nth_list ts k)) (with_part_list (ctor d v) ts k ks x) h

  -- the same of what code has at hand
  module _ (steps : List ℕ) (old new : MTree) (result : Result MTree MTree) (is_steps : steps ≡ k ∷ ks) (is_result : result ≡ r) where
    abbrev Goal : Type 0
    Goal = Exchanges (part_at steps old) (with_part_at steps x old) old new x result

    pub of_tuple : old ≡ tuple (mtrees ts) → new ≡ tuple (mtrees us) → Goal
    of_tuple p q = rw (is_steps, is_result, p, q) in_tuple

    pub of_ctor : (d : TypeId) (v : ℕ) → old ≡ ctor d v (mtrees ts) → new ≡ ctor d v (mtrees us) → Goal
    of_ctor d v p q = rw (is_steps, is_result, p, q) (in_ctor d v)

put_back : (ts : List MTree) (k : ℕ) (part : MTree) → slice_get ts k ≡ Some part → slice_set ts k part ≡ ts
put_back [] k part e = refl
put_back (t ∷ ts) zero part e = ap (λ u. u ∷ ts) (sym (same_Some t part e))
put_back (t ∷ ts) (suc k) part e = ap (λ us. t ∷ us) (put_back ts k part e)

-- an exchange in an item is one in the list
module _ (ks : List ℕ) (ts : List MTree) (k : ℕ) (part new x : MTree) (item : slice_get ts k ≡ Some part) where
  pub of_item : (r : Result MTree MTree) → Exchanges (part_at ks part) (with_part_at ks x part) part new x r →
      Exchanges (option_and_then (part_at ks) (slice_get ts k)) (with_part_in ks x ts k) ts (slice_set ts k new) x r
  of_item (Ok o) h =
      (ap (option_and_then (part_at ks)) item ∙ h.0, ap (option_and_then (λ p. option_map (slice_set ts k) (with_part_at ks x p))) item ∙ ap (option_map (slice_set ts k)) h.1)
  of_item (Err back) h =
      (h.0, ap (option_and_then (λ p. option_map (slice_set ts k) (with_part_at ks x p))) item ∙ ap (option_map (slice_set ts k)) h.1, ap (slice_set ts k) h.2 ∙ put_back ts k part item)

-- a tree without parts
pub no_child : (node : MTreeNode) (k : ℕ) → ((ts : List MTree) → node ≡ MTree_.Tuple ts → ⊥) → ((d : TypeId) (v : ℕ) (ts : List MTree) → node ≡ MTree_.Ctor d v ts → ⊥) → child k (mtree_of node) ≡ None
no_child (MTree_.Num n) k f g = refl
no_child (MTree_.Bool b) k f g = refl
no_child (MTree_.Tuple ts) k f g = absurd (f ts refl)
no_child (MTree_.Ctor d v ts) k f g = absurd (g d v ts refl)
no_child (MTree_.BoxAt c) k f g = refl
no_child (MTree_.Ptr a) k f g = refl

pub of_leaf : (k : ℕ) (ks steps : List ℕ) (x old new : MTree) (r : Result MTree MTree) → steps ≡ k ∷ ks → child k old ≡ None → new ≡ old → r ≡ Err x →
    Exchanges (part_at steps old) (with_part_at steps x old) old new x r
of_leaf k ks steps x old new r is_steps none same is_result =
    rw (is_steps, is_result) (refl, ap (option_and_then (λ part. option_and_then (λ p. set_child k p old) (with_part_at ks x part))) none, same)
