-- Made by tools/trees.py from tools/types.desc.py: the types of the printed language as data
-- (TEXT.md, "Types").
use Rattle.std.specs.Prelude.{◌≡◌, ℕ, zero, suc, ◌+◌, List, [], ◌∷◌, refl}
use Rattle.std.specs.Coded.{Coded, coded_ℕ}
use Rattle.std.proofs.Common.{ap, sym, ◌∙◌, subst}
use base.Stored.{Gv, gnil, gnum, gcons, num}
use Rattle.aen_base.specs.declared.int_ty.IntTy.{IntTy}
use Rattle.aen_base.specs.contracts.int_ty.IntTy as int_ty

abbrev head : Gv → Gv
head gnil = gnil
head (gnum n) = gnil
head (gcons a b) = a

abbrev tail : Gv → Gv
tail gnil = gnil
tail (gnum n) = gnil
tail (gcons a b) = b

mutual
  pub data PTy : Type 0 where
    integer : IntTy → PTy
    boolean : PTy
    unit : PTy
    product : PTys → PTy
    named : ℕ → PTys → PTy
    parameter : ℕ → PTy
    exit : PTy → PTy → PTy

  pub data PTys : Type 0 where
    no_ptys : PTys
    more_ptys : PTy → PTys → PTys

abbrev pub ptys : List (PTy) → PTys
ptys [] = no_ptys
ptys (x ∷ xs) = more_ptys x (ptys xs)

abbrev pub ptys_list : PTys → List (PTy)
ptys_list no_ptys = []
ptys_list (more_ptys a0 r) = a0 ∷ ptys_list r

pub ptys_back : (xs : List (PTy)) → ptys_list (ptys xs) ≡ xs
ptys_back [] = refl
ptys_back (x ∷ xs) = ap (λ r. x ∷ r) (ptys_back xs)

pub ptys_inj : (xs ys : List (PTy)) → ptys xs ≡ ptys ys → xs ≡ ys
ptys_inj xs ys p = sym (ptys_back xs) ∙ ap ptys_list p ∙ ptys_back ys

abbrev mutual
  pub nodes_pty : PTy → ℕ
  nodes_pty (integer a0) = 1
  nodes_pty boolean = 1
  nodes_pty unit = 1
  nodes_pty (product a0) = nodes_ptys a0 + 1
  nodes_pty (named a0 a1) = nodes_ptys a1 + 1
  nodes_pty (parameter a0) = 1
  nodes_pty (exit a0 a1) = nodes_pty a0 + nodes_pty a1 + 1

  pub nodes_ptys : PTys → ℕ
  nodes_ptys no_ptys = 1
  nodes_ptys (more_ptys a0 a1) = nodes_pty a0 + nodes_ptys a1 + 1

abbrev mutual
  pub stored_pty : PTy → Gv
  stored_pty (integer a0) = gcons (gnum 0) (gcons (int_ty.the_row.coded.code a0) gnil)
  stored_pty boolean = gcons (gnum 1) (gnil)
  stored_pty unit = gcons (gnum 2) (gnil)
  stored_pty (product a0) = gcons (gnum 3) (gcons (stored_ptys a0) gnil)
  stored_pty (named a0 a1) = gcons (gnum 4) (gcons (coded_ℕ.code a0) (gcons (stored_ptys a1) gnil))
  stored_pty (parameter a0) = gcons (gnum 5) (gcons (coded_ℕ.code a0) gnil)
  stored_pty (exit a0 a1) = gcons (gnum 6) (gcons (stored_pty a0) (gcons (stored_pty a1) gnil))

  pub stored_ptys : PTys → Gv
  stored_ptys no_ptys = gcons (gnum 0) (gnil)
  stored_ptys (more_ptys a0 a1) = gcons (gnum 1) (gcons (stored_pty a0) (gcons (stored_ptys a1) gnil))

abbrev Is_integer : PTy → Type 0
Is_integer y = (a0 : IntTy) × (y ≡ integer a0)

abbrev Is_boolean : PTy → Type 0
Is_boolean y = y ≡ boolean

abbrev Is_unit : PTy → Type 0
Is_unit y = y ≡ unit

abbrev Is_product : PTy → Type 0
Is_product y = (a0 : PTys) × (y ≡ product a0)

abbrev Is_named : PTy → Type 0
Is_named y = (a0 : ℕ) × ((a1 : PTys) × (y ≡ named a0 a1))

abbrev Is_parameter : PTy → Type 0
Is_parameter y = (a0 : ℕ) × (y ≡ parameter a0)

abbrev Is_exit : PTy → Type 0
Is_exit y = (a0 : PTy) × ((a1 : PTy) × (y ≡ exit a0 a1))

abbrev Shape_pty : ℕ → PTy → Type 0
Shape_pty zero y = Is_integer y
Shape_pty (suc zero) y = Is_boolean y
Shape_pty (suc (suc zero)) y = Is_unit y
Shape_pty (suc (suc (suc zero))) y = Is_product y
Shape_pty (suc (suc (suc (suc zero)))) y = Is_named y
Shape_pty (suc (suc (suc (suc (suc zero))))) y = Is_parameter y
Shape_pty (suc (suc (suc (suc (suc (suc zero)))))) y = Is_exit y
Shape_pty (suc (suc (suc (suc (suc (suc (suc n))))))) y = ⊥

shape_pty : (y : PTy) → Shape_pty (num (head (stored_pty y))) y
shape_pty (integer a0) = (a0, refl)
shape_pty boolean = refl
shape_pty unit = refl
shape_pty (product a0) = (a0, refl)
shape_pty (named a0 a1) = (a0, (a1, refl))
shape_pty (parameter a0) = (a0, refl)
shape_pty (exit a0 a1) = (a0, (a1, refl))

as_integer : (g : Gv) (y : PTy) → gcons (gnum 0) g ≡ stored_pty y → Is_integer y
as_integer g y p = subst (λ n. Shape_pty n y) (sym (ap (λ g. num (head g)) p)) (shape_pty y)

as_boolean : (g : Gv) (y : PTy) → gcons (gnum 1) g ≡ stored_pty y → Is_boolean y
as_boolean g y p = subst (λ n. Shape_pty n y) (sym (ap (λ g. num (head g)) p)) (shape_pty y)

as_unit : (g : Gv) (y : PTy) → gcons (gnum 2) g ≡ stored_pty y → Is_unit y
as_unit g y p = subst (λ n. Shape_pty n y) (sym (ap (λ g. num (head g)) p)) (shape_pty y)

as_product : (g : Gv) (y : PTy) → gcons (gnum 3) g ≡ stored_pty y → Is_product y
as_product g y p = subst (λ n. Shape_pty n y) (sym (ap (λ g. num (head g)) p)) (shape_pty y)

as_named : (g : Gv) (y : PTy) → gcons (gnum 4) g ≡ stored_pty y → Is_named y
as_named g y p = subst (λ n. Shape_pty n y) (sym (ap (λ g. num (head g)) p)) (shape_pty y)

as_parameter : (g : Gv) (y : PTy) → gcons (gnum 5) g ≡ stored_pty y → Is_parameter y
as_parameter g y p = subst (λ n. Shape_pty n y) (sym (ap (λ g. num (head g)) p)) (shape_pty y)

as_exit : (g : Gv) (y : PTy) → gcons (gnum 6) g ≡ stored_pty y → Is_exit y
as_exit g y p = subst (λ n. Shape_pty n y) (sym (ap (λ g. num (head g)) p)) (shape_pty y)

abbrev Is_no_ptys : PTys → Type 0
Is_no_ptys y = y ≡ no_ptys

abbrev Is_more_ptys : PTys → Type 0
Is_more_ptys y = (a0 : PTy) × ((a1 : PTys) × (y ≡ more_ptys a0 a1))

abbrev Shape_ptys : ℕ → PTys → Type 0
Shape_ptys zero y = Is_no_ptys y
Shape_ptys (suc zero) y = Is_more_ptys y
Shape_ptys (suc (suc n)) y = ⊥

shape_ptys : (y : PTys) → Shape_ptys (num (head (stored_ptys y))) y
shape_ptys no_ptys = refl
shape_ptys (more_ptys a0 a1) = (a0, (a1, refl))

as_no_ptys : (g : Gv) (y : PTys) → gcons (gnum 0) g ≡ stored_ptys y → Is_no_ptys y
as_no_ptys g y p = subst (λ n. Shape_ptys n y) (sym (ap (λ g. num (head g)) p)) (shape_ptys y)

as_more_ptys : (g : Gv) (y : PTys) → gcons (gnum 1) g ≡ stored_ptys y → Is_more_ptys y
as_more_ptys g y p = subst (λ n. Shape_ptys n y) (sym (ap (λ g. num (head g)) p)) (shape_ptys y)

mutual
  pub inj_pty : (x y : PTy) → stored_pty x ≡ stored_pty y → x ≡ y
  inj_pty (integer a0) y q =
      let w = as_integer (gcons (int_ty.the_row.coded.code a0) gnil) y q in
      let p : stored_pty (integer a0) ≡ stored_pty (integer w.0) = q ∙ ap stored_pty (w.1) in
      (λ i. integer (int_ty.the_row.coded.inj a0 w.0 (ap (λ g. head (tail g)) p) i)) ∙ sym (w.1)
  inj_pty boolean y q =
      let w = as_boolean (gnil) y q in
      sym w
  inj_pty unit y q =
      let w = as_unit (gnil) y q in
      sym w
  inj_pty (product a0) y q =
      let w = as_product (gcons (stored_ptys a0) gnil) y q in
      let p : stored_pty (product a0) ≡ stored_pty (product w.0) = q ∙ ap stored_pty (w.1) in
      (λ i. product (inj_ptys a0 w.0 (ap (λ g. head (tail g)) p) i)) ∙ sym (w.1)
  inj_pty (named a0 a1) y q =
      let w = as_named (gcons (coded_ℕ.code a0) (gcons (stored_ptys a1) gnil)) y q in
      let p : stored_pty (named a0 a1) ≡ stored_pty (named w.0 w.1.0) = q ∙ ap stored_pty (w.1.1) in
      (λ i. named (coded_ℕ.inj a0 w.0 (ap (λ g. head (tail g)) p) i) (inj_ptys a1 w.1.0 (ap (λ g. head (tail (tail g))) p) i)) ∙ sym (w.1.1)
  inj_pty (parameter a0) y q =
      let w = as_parameter (gcons (coded_ℕ.code a0) gnil) y q in
      let p : stored_pty (parameter a0) ≡ stored_pty (parameter w.0) = q ∙ ap stored_pty (w.1) in
      (λ i. parameter (coded_ℕ.inj a0 w.0 (ap (λ g. head (tail g)) p) i)) ∙ sym (w.1)
  inj_pty (exit a0 a1) y q =
      let w = as_exit (gcons (stored_pty a0) (gcons (stored_pty a1) gnil)) y q in
      let p : stored_pty (exit a0 a1) ≡ stored_pty (exit w.0 w.1.0) = q ∙ ap stored_pty (w.1.1) in
      (λ i. exit (inj_pty a0 w.0 (ap (λ g. head (tail g)) p) i) (inj_pty a1 w.1.0 (ap (λ g. head (tail (tail g))) p) i)) ∙ sym (w.1.1)

  pub inj_ptys : (x y : PTys) → stored_ptys x ≡ stored_ptys y → x ≡ y
  inj_ptys no_ptys y q =
      let w = as_no_ptys (gnil) y q in
      sym w
  inj_ptys (more_ptys a0 a1) y q =
      let w = as_more_ptys (gcons (stored_pty a0) (gcons (stored_ptys a1) gnil)) y q in
      let p : stored_ptys (more_ptys a0 a1) ≡ stored_ptys (more_ptys w.0 w.1.0) = q ∙ ap stored_ptys (w.1.1) in
      (λ i. more_ptys (inj_pty a0 w.0 (ap (λ g. head (tail g)) p) i) (inj_ptys a1 w.1.0 (ap (λ g. head (tail (tail g))) p) i)) ∙ sym (w.1.1)

abbrev pub coded_pty : Coded PTy
coded_pty = record { code = stored_pty; inj = inj_pty }

abbrev pub coded_ptys : Coded PTys
coded_ptys = record { code = stored_ptys; inj = inj_ptys }
