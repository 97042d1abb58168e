-- What is held is held in the types within; a mark that follows is in each closed table.
use Rattle.std.proofs.Common.{◌≡◌, ℕ, zero, suc, ◌+◌, ◌<◌, Bool, true, false, if◌then◌else◌, List, [], ◌∷◌, ◌++◌, length, get_or, slice_get, Some, refl, sym, ◌∙◌, ap, subst, arith}
use Rattle.std.specs.List.{All, AllByRecursion}
use Rattle.std.proofs.lemmas.List.Elements.{All-from_recursion, recursion_from_All, All-append, All-cons, All-nil, All-same, All-weaker}
use Rattle.aen_base.specs.declared.ids.TypeId.{TypeId}
use Rattle.core_ty.specs.declared.decl.TypeDecl.{TypeDecl}
use Rattle.core_ty.specs.declared.decl.Variant.{Variant}
use Rattle.core_ty.specs.declared.parts.Part.{Part}
use Rattle.core_ty.specs.declared.parts.Part.TheVariants.{Parameter}
use Rattle.core_ty.specs.Types as t
use Rattle.core_ty.specs.Containment.{Table, IsClosed, IsOf, parts, parts_of_all, parts_given, parts_of_fields, parts_of_variants}
use Rattle.core_ty.specs.Marks.{row_of, marked, HasShape, AreSound}
use Rattle.core_ty.specs.Spread.{IsIn, Holds, HoldsFields, HoldsVariants, Waits, Fits}
use Rattle.core_ty.proofs.Tables.{left, right, with_mark, marked_fits}
use Rattle.core_ty.proofs.Reaching.{same_decl}

-- one more in a list
pub pushed : {X : Type 0} (P : X → Type 0) (xs ys : List X) (x : X) → ys ≡ xs ++ x ∷ [] → P x → All P xs → All P ys
pushed P xs ys x e h all = All-same P ys (xs ++ x ∷ []) e (All-append P xs (x ∷ []) all (All-cons P x [] h (All-nil P)))

-- the parts of a type among those of the list in which it stands
module _ (P : Part → Type 0) (has : Table) where
  in_tuple : (xs : List t.Ty) (i : ℕ) (z : t.Ty) → i < length xs → AllByRecursion P (parts_of_all has (t.tys xs)) → AllByRecursion P (parts has (get_or xs i z))
  in_tuple [] i z h all = absurd (omega arith)
  in_tuple (x ∷ xs) zero z h all = left P (parts has x) (parts_of_all has (t.tys xs)) all
  in_tuple (x ∷ xs) (suc i) z h all = in_tuple xs i z (omega arith) (right P (parts has x) (parts_of_all has (t.tys xs)) all)

  if_so : (b : Bool) (xs : List Part) → b ≡ true → AllByRecursion P (if b then xs else []) → AllByRecursion P xs
  if_so true xs e all = all
  if_so false xs e all = cc

  in_given : (d k j : ℕ) (xs : List t.Ty) (i : ℕ) (z : t.Ty) → i < length xs → j ≡ k + i → has d (Parameter j) ≡ true →
      AllByRecursion P (parts_given has d k (t.tys xs)) → AllByRecursion P (parts has (get_or xs i z))
  in_given d k j [] i z h e set all = absurd (omega arith)
  in_given d k j (x ∷ xs) zero z h e set all =
      let here : j ≡ k = omega arith in
      if_so (has d (Parameter k)) (parts has x) (ap (λ n. has d (Parameter n)) (sym here) ∙ set)
      (left P (if has d (Parameter k) then parts has x else []) (parts_given has d (k + 1) (t.tys xs)) all)
  in_given d k j (x ∷ xs) (suc i) z h e set all =
      in_given d (k + 1) j xs i z (omega arith) (omega arith) set
      (right P (if has d (Parameter k) then parts has x else []) (parts_given has d (k + 1) (t.tys xs)) all)

  in_fields : (fs : List (List ℕ × t.Ty)) (i : ℕ) (z : List ℕ × t.Ty) → i < length fs → AllByRecursion P (parts_of_fields has fs) →
      AllByRecursion P (parts has (get_or fs i z).1)
  in_fields [] i z h all = absurd (omega arith)
  in_fields (f ∷ fs) zero z h all = left P (parts has f.1) (parts_of_fields has fs) all
  in_fields (f ∷ fs) (suc i) z h all = in_fields fs i z (omega arith) (right P (parts has f.1) (parts_of_fields has fs) all)

  in_variants : (vs : List Variant) (i : ℕ) (z : Variant) → i < length vs → AllByRecursion P (parts_of_variants has vs) →
      AllByRecursion P (parts_of_fields has (get_or vs i z).fields)
  in_variants [] i z h all = absurd (omega arith)
  in_variants (v ∷ vs) zero z h all = left P (parts_of_fields has v.fields) (parts_of_variants has vs) all
  in_variants (v ∷ vs) (suc i) z h all = in_variants vs i z (omega arith) (right P (parts_of_fields has v.fields) (parts_of_variants has vs) all)

-- from what stands around it
placed_part : (ds : List TypeDecl) (d : ℕ) (xs : List t.Ty) (i : ℕ) (z : t.Ty) → i < length xs → Holds ds d (t.tuple (t.tys xs)) → Holds ds d (get_or xs i z)
placed_part ds d xs i z h holds has closed =
    All-from_recursion (IsIn ds has d) (parts has (get_or xs i z))
    (in_tuple (IsIn ds has d) has xs i z h (recursion_from_All (IsIn ds has d) (parts_of_all has (t.tys xs)) (holds has closed)))

pub part_held : (ds : List TypeDecl) (d : ℕ) (xs : List t.Ty) (i : ℕ) (x : t.Ty) → i < length xs → x ≡ get_or xs i x →
    Holds ds d (t.tuple (t.tys xs)) → Holds ds d x
part_held ds d xs i x h e holds = subst (λ y. Holds ds d y) (sym e) (placed_part ds d xs i x h holds)

placed_argument : (ds : List TypeDecl) (d : ℕ) (e : TypeId) (xs : List t.Ty) (i : ℕ) (z : t.Ty) → i < length xs →
    Holds ds d (t.named e (t.tys xs)) → Waits ds e i d (get_or xs i z)
placed_argument ds d e xs i z h holds has closed set =
    let all = recursion_from_All (IsIn ds has d) (parts has (t.named e (t.tys xs))) (holds has closed) in
    All-from_recursion (IsIn ds has d) (parts has (get_or xs i z))
    (in_given (IsIn ds has d) has e.0 0 i xs i z h (omega arith) set all.1)

pub argument_waits : (ds : List TypeDecl) (d : ℕ) (e : TypeId) (xs : List t.Ty) (i : ℕ) (x : t.Ty) → i < length xs → x ≡ get_or xs i x →
    Holds ds d (t.named e (t.tys xs)) → Waits ds e i d x
argument_waits ds d e xs i x h is holds = subst (λ y. Waits ds e i d y) (sym is) (placed_argument ds d e xs i x h holds)

placed_field : (ds : List TypeDecl) (d : ℕ) (fs : List (List ℕ × t.Ty)) (i : ℕ) (z : List ℕ × t.Ty) → i < length fs →
    HoldsFields ds d fs → Holds ds d (get_or fs i z).1
placed_field ds d fs i z h holds has closed =
    All-from_recursion (IsIn ds has d) (parts has (get_or fs i z).1)
    (in_fields (IsIn ds has d) has fs i z h (recursion_from_All (IsIn ds has d) (parts_of_fields has fs) (holds has closed)))

pub field_held : (ds : List TypeDecl) (d : ℕ) (fs : List (List ℕ × t.Ty)) (i : ℕ) (x : List ℕ × t.Ty) → i < length fs → x ≡ get_or fs i x →
    HoldsFields ds d fs → Holds ds d x.1
field_held ds d fs i x h e holds = subst (λ (y : List ℕ × t.Ty). Holds ds d y.1) (sym e) (placed_field ds d fs i x h holds)

placed_variant : (ds : List TypeDecl) (d : ℕ) (vs : List Variant) (i : ℕ) (z : Variant) → i < length vs →
    HoldsVariants ds d vs → HoldsFields ds d (get_or vs i z).fields
placed_variant ds d vs i z h holds has closed =
    All-from_recursion (IsIn ds has d) (parts_of_fields has (get_or vs i z).fields)
    (in_variants (IsIn ds has d) has vs i z h (recursion_from_All (IsIn ds has d) (parts_of_variants has vs) (holds has closed)))

pub variant_held : (ds : List TypeDecl) (d : ℕ) (vs : List Variant) (i : ℕ) (x : Variant) → i < length vs → x ≡ get_or vs i x →
    HoldsVariants ds d vs → HoldsFields ds d x.fields
variant_held ds d vs i x h e holds = subst (λ (y : Variant). HoldsFields ds d y.fields) (sym e) (placed_variant ds d vs i x h holds)

pub own_held : (ds : List TypeDecl) (d : ℕ) (decl : TypeDecl) → slice_get ds d ≡ Some decl → HoldsVariants ds d decl.variants
own_held ds d decl at has closed =
    All-weaker (λ p. IsOf (length decl.params) p → has d p ≡ true) (IsIn ds has d)
    (λ p h other at' of. h (subst (λ (x : TypeDecl). IsOf (length x.params) p) (same_decl ds d other decl at' at) of))
    (parts_of_variants has decl.variants) (closed.own d decl at)

-- an argument that waits for a mark which is there is held
pub waited : (ds : List TypeDecl) (rows : List (List Bool)) (e : TypeId) (k d : ℕ) (ty : t.Ty) → AreSound ds rows →
    marked rows e.0 (Parameter k) ≡ true → Waits ds e k d ty → Holds ds d ty
waited ds rows e k d ty sound set waits has closed = waits has closed (sound has closed e.0 k set)

-- the declaration of a row
row_decl : (ds : List TypeDecl) (rows : List (List Bool)) (d k : ℕ) → HasShape ds rows → k < length (row_of rows d) →
    (decl : TypeDecl) × (slice_get ds d ≡ Some decl) × (k < length decl.params)
row_decl [] [] d k shape h = absurd (omega arith)
row_decl [] (row ∷ rows) d k shape h = cc
row_decl (x ∷ ds) [] d k shape h = absurd (omega arith)
row_decl (x ∷ ds) (row ∷ rows) zero k shape h =
    let n : length row ≡ length x.params = cc in
    (x, refl, omega (arith, n))
row_decl (x ∷ ds) (row ∷ rows) (suc d) k shape h = row_decl ds rows d k (cc) h

-- a type parameter that is held has its mark
pub mark_fits : (ds : List TypeDecl) (rows new : List (List Bool)) (d k : ℕ) → Fits ds rows → Holds ds d (t.param k) →
    k < length (row_of rows d) → new ≡ with_mark rows d k → Fits ds new
mark_fits ds rows new d k fits holds low made = rw made (marked_fits ds rows d k fits.0 fits.1 low inside)
  where
    inside : (has : Table) → IsClosed ds has → has d (Parameter k) ≡ true
    inside has closed =
        let here = row_decl ds rows d k fits.0 low in
        let all = recursion_from_All (IsIn ds has d) (Parameter k ∷ []) (holds has closed) in
        all.0 here.0 here.1 here.2
