-- Types as data: the values of the struct Ty (LANGUAGE.md, "Types"). A named type has its
-- declaration's number and its arguments, a reference its region, whether it is mutable, and its
-- content. Written by tools/trees.py from tools/core_ty.desc.py.
use Rattle.std.specs.Prelude.{◌≡◌, ℕ, zero, suc, ◌+◌, Bool, List, [], ◌∷◌, refl}
use Rattle.std.specs.Coded.{Coded, coded_ℕ, coded_bool}
use Rattle.std.proofs.Common.{ap, sym, ◌∙◌, subst}
use base.Stored.{Gv, gnil, gnum, gcons, num}
use Rattle.aen_base.specs.declared.int_ty.IntTy.{IntTy}
use Rattle.aen_base.specs.declared.ids.TypeId.{TypeId}
use Rattle.aen_base.specs.declared.ids.RegionId.{RegionId}
use Rattle.aen_base.specs.contracts.int_ty.IntTy as int_ty
use Rattle.aen_base.specs.contracts.ids.TypeId as type_id
use Rattle.aen_base.specs.contracts.ids.RegionId as region_id

abbrev head : Gv → Gv
head gnil = gnil
head (gnum n) = gnil
head (gcons a b) = a

abbrev tail : Gv → Gv
tail gnil = gnil
tail (gnum n) = gnil
tail (gcons a b) = b

mutual
  pub data Ty : Type 0 where
    int : IntTy → Ty
    bool : Ty
    unit : Ty
    tuple : Tys → Ty
    named : TypeId → Tys → Ty
    param : ℕ → Ty
    boxed : Ty → Ty
    ref : RegionId → Bool → Ty → Ty

  pub data Tys : Type 0 where
    no_tys : Tys
    more_tys : Ty → Tys → Tys

abbrev pub tys : List (Ty) → Tys
tys [] = no_tys
tys (x ∷ xs) = more_tys x (tys xs)

abbrev pub tys_list : Tys → List (Ty)
tys_list no_tys = []
tys_list (more_tys a0 r) = a0 ∷ tys_list r

pub tys_back : (xs : List (Ty)) → tys_list (tys xs) ≡ xs
tys_back [] = refl
tys_back (x ∷ xs) = ap (λ r. x ∷ r) (tys_back xs)

pub tys_inj : (xs ys : List (Ty)) → tys xs ≡ tys ys → xs ≡ ys
tys_inj xs ys p = sym (tys_back xs) ∙ ap tys_list p ∙ tys_back ys

abbrev mutual
  pub nodes_ty : Ty → ℕ
  nodes_ty (int a0) = 1
  nodes_ty bool = 1
  nodes_ty unit = 1
  nodes_ty (tuple a0) = nodes_tys a0 + 1
  nodes_ty (named a0 a1) = nodes_tys a1 + 1
  nodes_ty (param a0) = 1
  nodes_ty (boxed a0) = nodes_ty a0 + 1
  nodes_ty (ref a0 a1 a2) = nodes_ty a2 + 1

  pub nodes_tys : Tys → ℕ
  nodes_tys no_tys = 1
  nodes_tys (more_tys a0 a1) = nodes_ty a0 + nodes_tys a1 + 1

abbrev mutual
  pub stored_ty : Ty → Gv
  stored_ty (int a0) = gcons (gnum 0) (gcons (int_ty.the_row.coded.code a0) gnil)
  stored_ty bool = gcons (gnum 1) (gnil)
  stored_ty unit = gcons (gnum 2) (gnil)
  stored_ty (tuple a0) = gcons (gnum 3) (gcons (stored_tys a0) gnil)
  stored_ty (named a0 a1) = gcons (gnum 4) (gcons (type_id.the_row.coded.code a0) (gcons (stored_tys a1) gnil))
  stored_ty (param a0) = gcons (gnum 5) (gcons (coded_ℕ.code a0) gnil)
  stored_ty (boxed a0) = gcons (gnum 6) (gcons (stored_ty a0) gnil)
  stored_ty (ref a0 a1 a2) = gcons (gnum 7) (gcons (region_id.the_row.coded.code a0) (gcons (coded_bool.code a1) (gcons (stored_ty a2) gnil)))

  pub stored_tys : Tys → Gv
  stored_tys no_tys = gcons (gnum 0) (gnil)
  stored_tys (more_tys a0 a1) = gcons (gnum 1) (gcons (stored_ty a0) (gcons (stored_tys a1) gnil))

abbrev Is_int : Ty → Type 0
Is_int y = (a0 : IntTy) × (y ≡ int a0)

abbrev Is_bool : Ty → Type 0
Is_bool y = y ≡ bool

abbrev Is_unit : Ty → Type 0
Is_unit y = y ≡ unit

abbrev Is_tuple : Ty → Type 0
Is_tuple y = (a0 : Tys) × (y ≡ tuple a0)

abbrev Is_named : Ty → Type 0
Is_named y = (a0 : TypeId) × ((a1 : Tys) × (y ≡ named a0 a1))

abbrev Is_param : Ty → Type 0
Is_param y = (a0 : ℕ) × (y ≡ param a0)

abbrev Is_boxed : Ty → Type 0
Is_boxed y = (a0 : Ty) × (y ≡ boxed a0)

abbrev Is_ref : Ty → Type 0
Is_ref y = (a0 : RegionId) × ((a1 : Bool) × ((a2 : Ty) × (y ≡ ref a0 a1 a2)))

abbrev Shape_ty : ℕ → Ty → Type 0
Shape_ty zero y = Is_int y
Shape_ty (suc zero) y = Is_bool y
Shape_ty (suc (suc zero)) y = Is_unit y
Shape_ty (suc (suc (suc zero))) y = Is_tuple y
Shape_ty (suc (suc (suc (suc zero)))) y = Is_named y
Shape_ty (suc (suc (suc (suc (suc zero))))) y = Is_param y
Shape_ty (suc (suc (suc (suc (suc (suc zero)))))) y = Is_boxed y
Shape_ty (suc (suc (suc (suc (suc (suc (suc zero))))))) y = Is_ref y
Shape_ty (suc (suc (suc (suc (suc (suc (suc (suc n)))))))) y = ⊥

shape_ty : (y : Ty) → Shape_ty (num (head (stored_ty y))) y
shape_ty (int a0) = (a0, refl)
shape_ty bool = refl
shape_ty unit = refl
shape_ty (tuple a0) = (a0, refl)
shape_ty (named a0 a1) = (a0, (a1, refl))
shape_ty (param a0) = (a0, refl)
shape_ty (boxed a0) = (a0, refl)
shape_ty (ref a0 a1 a2) = (a0, (a1, (a2, refl)))

as_int : (g : Gv) (y : Ty) → gcons (gnum 0) g ≡ stored_ty y → Is_int y
as_int g y p = subst (λ n. Shape_ty n y) (sym (ap (λ g. num (head g)) p)) (shape_ty y)

as_bool : (g : Gv) (y : Ty) → gcons (gnum 1) g ≡ stored_ty y → Is_bool y
as_bool g y p = subst (λ n. Shape_ty n y) (sym (ap (λ g. num (head g)) p)) (shape_ty y)

as_unit : (g : Gv) (y : Ty) → gcons (gnum 2) g ≡ stored_ty y → Is_unit y
as_unit g y p = subst (λ n. Shape_ty n y) (sym (ap (λ g. num (head g)) p)) (shape_ty y)

as_tuple : (g : Gv) (y : Ty) → gcons (gnum 3) g ≡ stored_ty y → Is_tuple y
as_tuple g y p = subst (λ n. Shape_ty n y) (sym (ap (λ g. num (head g)) p)) (shape_ty y)

as_named : (g : Gv) (y : Ty) → gcons (gnum 4) g ≡ stored_ty y → Is_named y
as_named g y p = subst (λ n. Shape_ty n y) (sym (ap (λ g. num (head g)) p)) (shape_ty y)

as_param : (g : Gv) (y : Ty) → gcons (gnum 5) g ≡ stored_ty y → Is_param y
as_param g y p = subst (λ n. Shape_ty n y) (sym (ap (λ g. num (head g)) p)) (shape_ty y)

as_boxed : (g : Gv) (y : Ty) → gcons (gnum 6) g ≡ stored_ty y → Is_boxed y
as_boxed g y p = subst (λ n. Shape_ty n y) (sym (ap (λ g. num (head g)) p)) (shape_ty y)

as_ref : (g : Gv) (y : Ty) → gcons (gnum 7) g ≡ stored_ty y → Is_ref y
as_ref g y p = subst (λ n. Shape_ty n y) (sym (ap (λ g. num (head g)) p)) (shape_ty y)

abbrev Is_no_tys : Tys → Type 0
Is_no_tys y = y ≡ no_tys

abbrev Is_more_tys : Tys → Type 0
Is_more_tys y = (a0 : Ty) × ((a1 : Tys) × (y ≡ more_tys a0 a1))

abbrev Shape_tys : ℕ → Tys → Type 0
Shape_tys zero y = Is_no_tys y
Shape_tys (suc zero) y = Is_more_tys y
Shape_tys (suc (suc n)) y = ⊥

shape_tys : (y : Tys) → Shape_tys (num (head (stored_tys y))) y
shape_tys no_tys = refl
shape_tys (more_tys a0 a1) = (a0, (a1, refl))

as_no_tys : (g : Gv) (y : Tys) → gcons (gnum 0) g ≡ stored_tys y → Is_no_tys y
as_no_tys g y p = subst (λ n. Shape_tys n y) (sym (ap (λ g. num (head g)) p)) (shape_tys y)

as_more_tys : (g : Gv) (y : Tys) → gcons (gnum 1) g ≡ stored_tys y → Is_more_tys y
as_more_tys g y p = subst (λ n. Shape_tys n y) (sym (ap (λ g. num (head g)) p)) (shape_tys y)

mutual
  pub inj_ty : (x y : Ty) → stored_ty x ≡ stored_ty y → x ≡ y
  inj_ty (int a0) y q =
      let w = as_int (gcons (int_ty.the_row.coded.code a0) gnil) y q in
      let p : stored_ty (int a0) ≡ stored_ty (int w.0) = q ∙ ap stored_ty (w.1) in
      (λ i. int (int_ty.the_row.coded.inj a0 w.0 (ap (λ g. head (tail g)) p) i)) ∙ sym (w.1)
  inj_ty bool y q =
      let w = as_bool (gnil) y q in
      sym w
  inj_ty unit y q =
      let w = as_unit (gnil) y q in
      sym w
  inj_ty (tuple a0) y q =
      let w = as_tuple (gcons (stored_tys a0) gnil) y q in
      let p : stored_ty (tuple a0) ≡ stored_ty (tuple w.0) = q ∙ ap stored_ty (w.1) in
      (λ i. tuple (inj_tys a0 w.0 (ap (λ g. head (tail g)) p) i)) ∙ sym (w.1)
  inj_ty (named a0 a1) y q =
      let w = as_named (gcons (type_id.the_row.coded.code a0) (gcons (stored_tys a1) gnil)) y q in
      let p : stored_ty (named a0 a1) ≡ stored_ty (named w.0 w.1.0) = q ∙ ap stored_ty (w.1.1) in
      (λ i. named (type_id.the_row.coded.inj a0 w.0 (ap (λ g. head (tail g)) p) i) (inj_tys a1 w.1.0 (ap (λ g. head (tail (tail g))) p) i)) ∙ sym (w.1.1)
  inj_ty (param a0) y q =
      let w = as_param (gcons (coded_ℕ.code a0) gnil) y q in
      let p : stored_ty (param a0) ≡ stored_ty (param w.0) = q ∙ ap stored_ty (w.1) in
      (λ i. param (coded_ℕ.inj a0 w.0 (ap (λ g. head (tail g)) p) i)) ∙ sym (w.1)
  inj_ty (boxed a0) y q =
      let w = as_boxed (gcons (stored_ty a0) gnil) y q in
      let p : stored_ty (boxed a0) ≡ stored_ty (boxed w.0) = q ∙ ap stored_ty (w.1) in
      (λ i. boxed (inj_ty a0 w.0 (ap (λ g. head (tail g)) p) i)) ∙ sym (w.1)
  inj_ty (ref a0 a1 a2) y q =
      let w = as_ref (gcons (region_id.the_row.coded.code a0) (gcons (coded_bool.code a1) (gcons (stored_ty a2) gnil))) y q in
      let p : stored_ty (ref a0 a1 a2) ≡ stored_ty (ref w.0 w.1.0 w.1.1.0) = q ∙ ap stored_ty (w.1.1.1) in
      (λ i. ref (region_id.the_row.coded.inj a0 w.0 (ap (λ g. head (tail g)) p) i) (coded_bool.inj a1 w.1.0 (ap (λ g. head (tail (tail g))) p) i) (inj_ty a2 w.1.1.0 (ap (λ g. head (tail (tail (tail g)))) p) i)) ∙ sym (w.1.1.1)

  pub inj_tys : (x y : Tys) → stored_tys x ≡ stored_tys y → x ≡ y
  inj_tys no_tys y q =
      let w = as_no_tys (gnil) y q in
      sym w
  inj_tys (more_tys a0 a1) y q =
      let w = as_more_tys (gcons (stored_ty a0) (gcons (stored_tys a1) gnil)) y q in
      let p : stored_tys (more_tys a0 a1) ≡ stored_tys (more_tys w.0 w.1.0) = q ∙ ap stored_tys (w.1.1) in
      (λ i. more_tys (inj_ty a0 w.0 (ap (λ g. head (tail g)) p) i) (inj_tys a1 w.1.0 (ap (λ g. head (tail (tail g))) p) i)) ∙ sym (w.1.1)

abbrev pub coded_ty : Coded Ty
coded_ty = record { code = stored_ty; inj = inj_ty }

abbrev pub coded_tys : Coded Tys
coded_tys = record { code = stored_tys; inj = inj_tys }
