-- Tables, their marks, and the parts that stand in types by them.
use Rattle.std.proofs.Common.{◌≡◌, ℕ, zero, suc, ◌+◌, ◌<◌, Bool, true, false, if◌then◌else◌, List, [], ◌∷◌, ◌++◌, length, map, replicate, length-set, slice_set, slice_get, unwrap_or, Some, ◌⊎◌, inl, inr, refl, sym, ◌∙◌, ap, subst, arith}
use Rattle.std.specs.List.{All, Contains, AllByRecursion}
use Rattle.std.proofs.lemmas.List.Elements.{All-from_recursion, recursion_from_All, All-contains}
use Rattle.std.proofs.lemmas.Bool.{cases_eq, true≢false}
use Rattle.std.proofs.lemmas.List.{length-replicate}
use Rattle.core_ty.specs.declared.decl.TypeDecl.{TypeDecl}
use Rattle.core_ty.specs.declared.decl.Variant.{Variant}
use Rattle.core_ty.specs.declared.parts.Part.{Part}
use Rattle.core_ty.specs.declared.parts.Part.TheVariants.{Parameter}
use Rattle.core_ty.specs.Types as t
use Rattle.core_ty.specs.Containment.{Table, parts, parts_of_all, parts_given, parts_of_fields, parts_of_variants, IsOf, IsClosed}
use Rattle.core_ty.specs.Marks.{is_set, row_of, marked, HasShape, AreSound, IsUnmarked, parts_by, unset, unmarked}

-- each of two lists and of both in a row
pub left : (P : Part → Type 0) (xs ys : List Part) → AllByRecursion P (xs ++ ys) → AllByRecursion P xs
left P [] ys h = tt
left P (x ∷ xs) ys h = (h.0, left P xs ys h.1)

pub right : (P : Part → Type 0) (xs ys : List Part) → AllByRecursion P (xs ++ ys) → AllByRecursion P ys
right P [] ys h = h
right P (x ∷ xs) ys h = right P xs ys h.1

both : (P : Part → Type 0) (xs ys : List Part) → AllByRecursion P xs → AllByRecursion P ys → AllByRecursion P (xs ++ ys)
both P [] ys h k = k
both P (x ∷ xs) ys h k = (h.0, both P xs ys h.1 k)

given_by : (P : Part → Type 0) (b b' : Bool) (xs xs' : List Part) → (b ≡ true → b' ≡ true) →
    (AllByRecursion P xs' → AllByRecursion P xs) → AllByRecursion P (if b' then xs' else []) → AllByRecursion P (if b then xs else [])
given_by P false b' xs xs' e f h = tt
given_by P true true xs xs' e f h = f h
given_by P true false xs xs' e f h = absurd (true≢false (sym (e refl)))

-- a table that says less finds no other parts
module _ (has has' : Table) (below : (d k : ℕ) → has d (Parameter k) ≡ true → has' d (Parameter k) ≡ true) (P : Part → Type 0) where
  mutual
    fewer_ty : (x : t.Ty) → AllByRecursion P (parts has' x) → AllByRecursion P (parts has x)
    fewer_ty (t.int i) h = h
    fewer_ty t.bool h = h
    fewer_ty t.unit h = h
    fewer_ty (t.tuple xs) h = fewer_all xs h
    fewer_ty (t.named d args) h = (h.0, fewer_given d.0 0 args h.1)
    fewer_ty (t.param k) h = h
    fewer_ty (t.boxed inner) h = h
    fewer_ty (t.ref r m inner) h = h

    fewer_all : (xs : t.Tys) → AllByRecursion P (parts_of_all has' xs) → AllByRecursion P (parts_of_all has xs)
    fewer_all t.no_tys h = h
    fewer_all (t.more_tys x xs) h =
        both P (parts has x) (parts_of_all has xs)
        (fewer_ty x (left P (parts has' x) (parts_of_all has' xs) h))
        (fewer_all xs (right P (parts has' x) (parts_of_all has' xs) h))

    fewer_given : (d k : ℕ) (xs : t.Tys) → AllByRecursion P (parts_given has' d k xs) → AllByRecursion P (parts_given has d k xs)
    fewer_given d k t.no_tys h = h
    fewer_given d k (t.more_tys x xs) h =
        let now = if has d (Parameter k) then parts has x else [] in
        let now' = if has' d (Parameter k) then parts has' x else [] in
        both P now (parts_given has d (k + 1) xs)
        (given_by P (has d (Parameter k)) (has' d (Parameter k)) (parts has x) (parts has' x) (below d k) (fewer_ty x)
        (left P now' (parts_given has' d (k + 1) xs) h))
        (fewer_given d (k + 1) xs (right P now' (parts_given has' d (k + 1) xs) h))

  fewer_fields : (fs : List (List ℕ × t.Ty)) → AllByRecursion P (parts_of_fields has' fs) → AllByRecursion P (parts_of_fields has fs)
  fewer_fields [] h = h
  fewer_fields (f ∷ fs) h =
      both P (parts has f.1) (parts_of_fields has fs)
      (fewer_ty f.1 (left P (parts has' f.1) (parts_of_fields has' fs) h))
      (fewer_fields fs (right P (parts has' f.1) (parts_of_fields has' fs) h))

  fewer_variants : (vs : List Variant) → AllByRecursion P (parts_of_variants has' vs) → AllByRecursion P (parts_of_variants has vs)
  fewer_variants [] h = h
  fewer_variants (v ∷ vs) h =
      both P (parts_of_fields has v.fields) (parts_of_variants has vs)
      (fewer_fields v.fields (left P (parts_of_fields has' v.fields) (parts_of_variants has' vs) h))
      (fewer_variants vs (right P (parts_of_fields has' v.fields) (parts_of_variants has' vs) h))

  pub fewer : (vs : List Variant) → All P (parts_of_variants has' vs) → All P (parts_of_variants has vs)
  fewer vs h = All-from_recursion P (parts_of_variants has vs) (fewer_variants vs (recursion_from_All P (parts_of_variants has' vs) h))

-- a place of a list that is set, and the others
pub same_place : {A : Type 0} (xs : List A) (i : ℕ) (y z : A) → i < length xs → unwrap_or (slice_get (slice_set xs i y) i) z ≡ y
same_place [] i y z h = absurd (omega arith)
same_place (x ∷ xs) zero y z h = refl
same_place (x ∷ xs) (suc i) y z h = same_place xs i y z (omega arith)

pub other_place : {A : Type 0} (xs : List A) (i j : ℕ) (y z : A) → (j ≡ i → ⊥) → unwrap_or (slice_get (slice_set xs i y) j) z ≡ unwrap_or (slice_get xs j) z
other_place [] i j y z h = refl
other_place (x ∷ xs) zero zero y z h = absurd (h refl)
other_place (x ∷ xs) zero (suc j) y z h = refl
other_place (x ∷ xs) (suc i) zero y z h = refl
other_place (x ∷ xs) (suc i) (suc j) y z h = other_place xs i j y z (λ e. h (ap suc e))

-- a mark is set: one place fewer has none
pub unset_falls : (row : List Bool) (k : ℕ) → k < length row → is_set row k ≡ false → unset (slice_set row k true) < unset row
unset_falls [] k h e = absurd (omega arith)
unset_falls (true ∷ row) zero h e = absurd (true≢false e)
unset_falls (false ∷ row) zero h e = omega arith
unset_falls (b ∷ row) (suc k) h e = omega (arith, unset_falls row k (omega arith) e)

pub unmarked_falls : (rows : List (List Bool)) (d k : ℕ) → k < length (row_of rows d) → is_set (row_of rows d) k ≡ false →
    unmarked (slice_set rows d (slice_set (row_of rows d) k true)) < unmarked rows
unmarked_falls [] d k h e = absurd (omega arith)
unmarked_falls (row ∷ rows) zero k h e = omega (arith, unset_falls row k h e)
unmarked_falls (row ∷ rows) (suc d) k h e = omega (arith, unmarked_falls rows d k h e)

-- rows without marks
abbrev pub blank : List TypeDecl → List (List Bool)
blank ds = map (λ decl. replicate (length decl.params) false) ds

pub unset_everywhere : (n k : ℕ) → is_set (replicate n false) k ≡ false
unset_everywhere zero k = refl
unset_everywhere (suc n) zero = refl
unset_everywhere (suc n) (suc k) = unset_everywhere n k

blank_unset : (ds : List TypeDecl) (d k : ℕ) → is_set (row_of (blank ds) d) k ≡ false
blank_unset [] d k = refl
blank_unset (decl ∷ ds) zero k = unset_everywhere (length decl.params) k
blank_unset (decl ∷ ds) (suc d) k = blank_unset ds d k

blank_shape : (ds : List TypeDecl) → HasShape ds (blank ds)
blank_shape [] = refl
blank_shape (decl ∷ ds) =
    λ i. length-replicate (length decl.params) false i ∷ blank_shape ds i

pub blank_fits : (ds : List TypeDecl) (rows : List (List Bool)) → rows ≡ blank ds → HasShape ds rows × AreSound ds rows
blank_fits ds rows e = rw e (blank_shape ds, λ has closed d k h. absurd (true≢false (sym h ∙ blank_unset ds d k)))

-- a mark more
abbrev pub with_mark : List (List Bool) → ℕ → ℕ → List (List Bool)
with_mark rows d k = slice_set rows d (slice_set (row_of rows d) k true)

row_within : (rows : List (List Bool)) (d k : ℕ) → k < length (row_of rows d) → d < length rows
row_within [] d k h = absurd (omega arith)
row_within (row ∷ rows) zero k h = omega arith
row_within (row ∷ rows) (suc d) k h = omega (arith, row_within rows d k h)

same_lengths : (rows : List (List Bool)) (d k : ℕ) → map length (with_mark rows d k) ≡ map length rows
same_lengths [] d k = refl
same_lengths (row ∷ rows) zero k = ap (λ n. n ∷ map length rows) (length-set row k true)
same_lengths (row ∷ rows) (suc d) k = ap (λ ns. length row ∷ ns) (same_lengths rows d k)

pub row_fits : (ds : List TypeDecl) (rows : List (List Bool)) (d : ℕ) (decl : TypeDecl) → HasShape ds rows →
    slice_get ds d ≡ Some decl → length (row_of rows d) ≡ length decl.params
row_fits [] rows d decl shape at = cc
row_fits (x ∷ ds) [] d decl shape at = cc
row_fits (x ∷ ds) (row ∷ rows) zero decl shape at =
    let e : x ≡ decl = cc in
    let n : length row ≡ length x.params = cc in
    n ∙ ap (λ (y : TypeDecl). length y.params) e
row_fits (x ∷ ds) (row ∷ rows) (suc d) decl shape at = row_fits ds rows d decl (cc) at

-- a part of a declaration by the marks is in each closed table
pub part_inside : (ds : List TypeDecl) (rows : List (List Bool)) (d : ℕ) (decl : TypeDecl) (p : Part) → AreSound ds rows →
    slice_get ds d ≡ Some decl → Contains (parts_by rows decl) p → IsOf (length decl.params) p →
    (has : Table) → IsClosed ds has → has d p ≡ true
part_inside ds rows d decl p sound at among of has closed =
    let Q : Part → Type 0 = λ q. IsOf (length decl.params) q → has d q ≡ true in
    let all = fewer (marked rows) has (sound has closed) Q decl.variants (closed.own d decl at) in
    All-contains Q (parts_by rows decl) p all among of

-- what is marked next is in each closed table
next_inside : (ds : List TypeDecl) (rows : List (List Bool)) (d k : ℕ) → HasShape ds rows → AreSound ds rows →
    IsUnmarked ds rows d k → (has : Table) → IsClosed ds has → has d (Parameter k) ≡ true
next_inside ds rows d k shape sound (decl, at, (low, none, among)) has closed =
    let fits = row_fits ds rows d decl shape at in
    part_inside ds rows d decl (Parameter k) sound at among (omega arith) has closed

-- a mark more that is in each closed table
pub marked_fits : (ds : List TypeDecl) (rows : List (List Bool)) (d k : ℕ) → HasShape ds rows → AreSound ds rows →
    k < length (row_of rows d) → ((has : Table) → IsClosed ds has → has d (Parameter k) ≡ true) →
    HasShape ds (with_mark rows d k) × AreSound ds (with_mark rows d k)
marked_fits ds rows d k shape sound low inside =
    (same_lengths rows d k ∙ shape, λ has closed e j h. by_place has closed e j h (cases_eq e d) (cases_eq j k))
  where
    by_place : (has : Table) → IsClosed ds has → (e j : ℕ) → is_set (row_of (with_mark rows d k) e) j ≡ true →
        ((e ≡ d) ⊎ (e ≡ d → ⊥)) → ((j ≡ k) ⊎ (j ≡ k → ⊥)) → has e (Parameter j) ≡ true
    by_place has closed e j h (inl x) (inl y) = rw (x, y) (inside has closed)
    by_place has closed e j h (inl x) (inr y) =
        let here = same_place rows d (slice_set (row_of rows d) k true) [] (row_within rows d k low) in
        let old = other_place (row_of rows d) k j true false y in
        let seen : is_set (row_of (with_mark rows d k) d) j ≡ true = ap (λ i. is_set (row_of (with_mark rows d k) i) j) (sym x) ∙ h in
        rw x (sound has closed d j (sym old ∙ ap (λ row. is_set row j) (sym here) ∙ seen))
    by_place has closed e j h (inr x) y = sound has closed e j (ap (λ row. is_set row j) (sym (other_place rows d e (slice_set (row_of rows d) k true) [] x)) ∙ h)

-- one turn of the search for what is not marked
pub turn_fits : (ds : List TypeDecl) (rows seen new : List (List Bool)) (d k : ℕ) → seen ≡ rows → HasShape ds rows × AreSound ds rows →
    IsUnmarked ds seen d k → new ≡ with_mark rows d k → HasShape ds new × AreSound ds new
turn_fits ds rows seen new d k e fits next made =
    let Next : List (List Bool) → Type 0 = λ r. IsUnmarked ds r d k in
    let here : IsUnmarked ds rows d k = subst Next e next in
    rw made (marked_fits ds rows d k fits.0 fits.1 here.2.0 (next_inside ds rows d k fits.0 fits.1 here))

pub turn_falls : (ds : List TypeDecl) (rows seen new : List (List Bool)) (d k : ℕ) → seen ≡ rows →
    IsUnmarked ds seen d k → new ≡ with_mark rows d k → unmarked new < unmarked rows
turn_falls ds rows seen new d k e next made =
    let Next : List (List Bool) → Type 0 = λ r. IsUnmarked ds r d k in
    let here : IsUnmarked ds rows d k = subst Next e next in
    rw made (unmarked_falls rows d k here.2.0 here.2.1)
