-- The search for the declared types that a declaration contains.
use Rattle.std.proofs.Common.{◌≡◌, ℕ, ◌+◌, ◌<◌, ◌≤◌, Bool, true, false, List, length, length-set, get_or, take, take_all, replicate, slice_set, slice_get, Some, ◌⊎◌, inl, inr, sym, ◌∙◌, ap, subst, arith}
use Rattle.std.specs.List.{All, Contains}
use Rattle.std.proofs.lemmas.List.{length-replicate, get_or_default}
use Rattle.std.proofs.lemmas.List.Elements.{All-weaker, All-more, All-same}
use Rattle.std.proofs.lemmas.Option.{slice_get-get_or}
use Rattle.std.proofs.lemmas.Bool.{cases_eq, true≢false}
use Rattle.core_ty.specs.declared.decl.TypeDecl.{TypeDecl}
use Rattle.core_ty.specs.declared.parts.Part.{Part}
use Rattle.core_ty.specs.declared.parts.Part.TheVariants.{Parameter, Declared}
use Rattle.core_ty.specs.Containment.{Table, IsClosed}
use Rattle.core_ty.specs.Marks.{is_set, AreSound, IsSeen, IsReach, IsSearch, Sees, type_number, parts_by}
use Rattle.core_ty.proofs.Tables.{same_place, other_place, unset_everywhere, part_inside}

-- a mark in a row
pub set_here : (row : List Bool) (k : ℕ) → k < length row → is_set (slice_set row k true) k ≡ true
set_here row k h = same_place row k true false h

set_by : (row : List Bool) (k e : ℕ) → (e ≡ k) ⊎ (e ≡ k → ⊥) → k < length row → is_set row e ≡ true → is_set (slice_set row k true) e ≡ true
set_by row k e (inl x) h s = rw x (set_here row k h)
set_by row k e (inr x) h s = other_place row k e true false x ∙ s

pub set_kept : (row : List Bool) (k : ℕ) → k < length row → (e : ℕ) → is_set row e ≡ true → is_set (slice_set row k true) e ≡ true
set_kept row k h e s = set_by row k e (cases_eq e k) h s

from_by : (row : List Bool) (k e : ℕ) → (e ≡ k) ⊎ (e ≡ k → ⊥) → is_set (slice_set row k true) e ≡ true → (is_set row e ≡ true) ⊎ (e ≡ k)
from_by row k e (inl x) s = inr x
from_by row k e (inr x) s = inl (sym (other_place row k e true false x) ∙ s)

pub set_from : (row : List Bool) (k e : ℕ) → is_set (slice_set row k true) e ≡ true → (is_set row e ≡ true) ⊎ (e ≡ k)
set_from row k e s = from_by row k e (cases_eq e k) s

-- what is seen stays seen
seen_kept : (seen new : List Bool) → length new ≡ length seen → ((e : ℕ) → is_set seen e ≡ true → is_set new e ≡ true) →
    (p : Part) → IsSeen seen p → IsSeen new p
seen_kept seen new same kept (Parameter k) h = tt
seen_kept seen new same kept (Declared e) h = λ low. kept e.0 (h (omega arith))

pub all_kept : (seen new : List Bool) → length new ≡ length seen → ((e : ℕ) → is_set seen e ≡ true → is_set new e ≡ true) →
    (ps : List Part) → All (IsSeen seen) ps → All (IsSeen new) ps
all_kept seen new same kept ps h = All-weaker (IsSeen seen) (IsSeen new) (seen_kept seen new same kept) ps h

among_by : (seen : List Bool) (ps : List Part) (i e : ℕ) (d : Part) → i < length ps →
    (is_set seen e ≡ true) ⊎ (get_or ps i d ≡ type_number e) → (is_set seen e ≡ true) ⊎ Contains ps (type_number e)
among_by seen ps i e d h (inl s) = inl s
among_by seen ps i e d h (inr x) = inr (i, h, get_or_default ps i (type_number e) d h ∙ x)

-- one part more is seen
pub sees : (start seen new : List Bool) (ps : List Part) (i : ℕ) (d : Part) → i < length ps →
    (length seen ≡ length start)
    × ((e : ℕ) → is_set start e ≡ true → is_set seen e ≡ true)
    × All (IsSeen seen) (take i ps)
    × ((e : ℕ) → is_set seen e ≡ true → (is_set start e ≡ true) ⊎ Contains ps (type_number e)) →
    length new ≡ length seen → ((e : ℕ) → is_set seen e ≡ true → is_set new e ≡ true) → IsSeen new (get_or ps i d) →
    ((e : ℕ) → is_set new e ≡ true → (is_set seen e ≡ true) ⊎ (get_or ps i d ≡ type_number e)) →
    (length new ≡ length start)
    × ((e : ℕ) → is_set start e ≡ true → is_set new e ≡ true)
    × All (IsSeen new) (take (i + 1) ps)
    × ((e : ℕ) → is_set new e ≡ true → (is_set start e ≡ true) ⊎ Contains ps (type_number e))
sees start seen new ps i d h (long, held, all, begun) same kept here from = (
  same ∙ long,
  λ e s. kept e (held e s),
  All-more (IsSeen new) ps i d h (all_kept seen new same kept (take i ps) all) here,
  λ e s. since e (among_by seen ps i e d h (from e s)),
)
  where
    since : (e : ℕ) → (is_set seen e ≡ true) ⊎ Contains ps (type_number e) → (is_set start e ≡ true) ⊎ Contains ps (type_number e)
    since e (inl s) = begun e s
    since e (inr x) = inr x

pub all_taken : (P : Part → Type 0) (ps : List Part) (i : ℕ) → length ps ≤ i → All P (take i ps) → All P ps
all_taken P ps i h all = All-same P ps (take i ps) (sym (take_all i ps h)) all

pub same_decl : (ds : List TypeDecl) (d : ℕ) (x y : TypeDecl) → slice_get ds d ≡ Some x → slice_get ds d ≡ Some y → x ≡ y
same_decl ds d x y p q = cc

-- the search after the parts of the declaration itself
pub begins : (ds : List TypeDecl) (rows : List (List Bool)) (start : ℕ) (decl : TypeDecl) (blank seen done : List Bool) →
    AreSound ds rows → slice_get ds start ≡ Some decl → blank ≡ replicate (length ds) false → done ≡ replicate (length ds) false →
    Sees (parts_by rows decl) blank seen → IsSearch ds rows start seen done
begins ds rows start decl blank seen done sound at none none' sees = record {
  same = sees.same ∙ ap length none ∙ length-replicate (length ds) false;
  same_done = ap length none' ∙ length-replicate (length ds) false;
  sound = λ has closed e s. inside has closed e (sees.from e s);
  first = λ other at'. subst (λ (x : TypeDecl). All (IsSeen seen) (parts_by rows x)) (same_decl ds start decl other at at') sees.all;
  onward = λ e other s at'. absurd (true≢false (sym s ∙ ap (λ row. is_set row e) none' ∙ unset_everywhere (length ds) e));
}
  where
    inside : (has : Table) → IsClosed ds has → (e : ℕ) → (is_set blank e ≡ true) ⊎ Contains (parts_by rows decl) (type_number e) →
        has start (type_number e) ≡ true
    inside has closed e (inl s) = absurd (true≢false (sym s ∙ ap (λ row. is_set row e) none ∙ unset_everywhere (length ds) e))
    inside has closed e (inr among) = part_inside ds rows start decl (type_number e) sound at among tt has closed

-- one turn
pub goes_on : (ds : List TypeDecl) (rows : List (List Bool)) (start next : ℕ) (decl : TypeDecl) (seen done new after : List Bool) →
    AreSound ds rows → IsSearch ds rows start seen done → slice_get ds next ≡ Some decl →
    is_set seen next ≡ true → after ≡ slice_set done next true → Sees (parts_by rows decl) seen new →
    IsSearch ds rows start new after
goes_on ds rows start next decl seen done new after sound search at here made sees = record {
  same = sees.same ∙ search.same;
  same_done = ap length made ∙ length-set done next true ∙ search.same_done;
  sound = λ has closed e s. inside has closed e (sees.from e s);
  first = λ other at'. all_kept seen new sees.same sees.kept (parts_by rows other) (search.first other at');
  onward = λ e other s at'. parts_seen e other at' (set_from done next e (ap (λ row. is_set row e) (sym made) ∙ s));
}
  where
    inside : (has : Table) → IsClosed ds has → (e : ℕ) → (is_set seen e ≡ true) ⊎ Contains (parts_by rows decl) (type_number e) →
        has start (type_number e) ≡ true
    inside has closed e (inl s) = search.sound has closed e s
    inside has closed e (inr among) =
        closed.onward start (record { 0 = next }) (record { 0 = e }) (search.sound has closed next here)
        (part_inside ds rows next decl (type_number e) sound at among tt has closed)

    parts_seen : (e : ℕ) (other : TypeDecl) → slice_get ds e ≡ Some other → (is_set done e ≡ true) ⊎ (e ≡ next) →
        All (IsSeen new) (parts_by rows other)
    parts_seen e other at' (inl s) = all_kept seen new sees.same sees.kept (parts_by rows other) (search.onward e other s at')
    parts_seen e other at' (inr x) =
        let there : slice_get ds next ≡ Some other = ap (λ i. slice_get ds i) (sym x) ∙ at' in
        subst (λ (y : TypeDecl). All (IsSeen new) (parts_by rows y)) (same_decl ds next decl other at there) sees.all

-- and the end, where all that is seen is done
pub ends : (ds : List TypeDecl) (rows : List (List Bool)) (start : ℕ) (seen done : List Bool) → IsSearch ds rows start seen done →
    ((e : ℕ) → is_set seen e ≡ true → is_set done e ≡ true) → IsReach ds rows start seen
ends ds rows start seen done search over = record {
  same = search.same;
  sound = search.sound;
  first = search.first;
  onward = λ e decl s at. search.onward e decl (over e s) at;
}

-- the declaration in a place
pub found_at : (ds : List TypeDecl) (d : ℕ) (decl : TypeDecl) → d < length ds → decl ≡ get_or ds d decl → slice_get ds d ≡ Some decl
found_at ds d decl h e = slice_get-get_or ds d decl h ∙ ap Some (sym e)
