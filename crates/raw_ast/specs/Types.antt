-- The types of a printed text as they are spelled (TEXT.md, "Grammar").
-- Made by tools/trees.py from tools/raw_ast.desc.py.
use Rattle.std.specs.Prelude.{◌≡◌, ℕ, zero, suc, ◌+◌, List, [], ◌∷◌, refl}
use Rattle.std.specs.Coded.{Coded}
use Rattle.std.proofs.Common.{ap, sym, ◌∙◌, subst}
use base.Stored.{Gv, gnil, gnum, gcons, num}
use Rattle.raw_ast.specs.declared.spelling.Spelling.{Spelling}
use Rattle.raw_ast.specs.contracts.spelling.Spelling as spelling_row
use Rattle.aen_base.specs.declared.int_ty.IntTy.{IntTy}
use Rattle.aen_base.specs.contracts.int_ty.IntTy as intty_row

abbrev head : Gv → Gv
head gnil = gnil
head (gnum n) = gnil
head (gcons a b) = a

abbrev tail : Gv → Gv
tail gnil = gnil
tail (gnum n) = gnil
tail (gcons a b) = b

mutual
  pub data RawType : Type 0 where
    integer : IntTy → RawType
    boolean : RawType
    unit : RawType
    product : RawTypes → RawType
    named : Spelling → RawTypes → RawType
    exit : RawType → RawType → RawType

  pub data RawTypes : Type 0 where
    no_rawtypes : RawTypes
    more_rawtypes : RawType → RawTypes → RawTypes

abbrev pub rawtypes : List (RawType) → RawTypes
rawtypes [] = no_rawtypes
rawtypes (x ∷ xs) = more_rawtypes x (rawtypes xs)

abbrev pub rawtypes_list : RawTypes → List (RawType)
rawtypes_list no_rawtypes = []
rawtypes_list (more_rawtypes a0 r) = a0 ∷ rawtypes_list r

pub rawtypes_back : (xs : List (RawType)) → rawtypes_list (rawtypes xs) ≡ xs
rawtypes_back [] = refl
rawtypes_back (x ∷ xs) = ap (λ r. x ∷ r) (rawtypes_back xs)

pub rawtypes_inj : (xs ys : List (RawType)) → rawtypes xs ≡ rawtypes ys → xs ≡ ys
rawtypes_inj xs ys p = sym (rawtypes_back xs) ∙ ap rawtypes_list p ∙ rawtypes_back ys

abbrev mutual
  pub nodes_rawtype : RawType → ℕ
  nodes_rawtype (integer a0) = 1
  nodes_rawtype boolean = 1
  nodes_rawtype unit = 1
  nodes_rawtype (product a0) = nodes_rawtypes a0 + 1
  nodes_rawtype (named a0 a1) = nodes_rawtypes a1 + 1
  nodes_rawtype (exit a0 a1) = nodes_rawtype a0 + nodes_rawtype a1 + 1

  pub nodes_rawtypes : RawTypes → ℕ
  nodes_rawtypes no_rawtypes = 1
  nodes_rawtypes (more_rawtypes a0 a1) = nodes_rawtype a0 + nodes_rawtypes a1 + 1

abbrev mutual
  pub stored_rawtype : RawType → Gv
  stored_rawtype (integer a0) = gcons (gnum 0) (gcons (intty_row.the_row.coded.code a0) gnil)
  stored_rawtype boolean = gcons (gnum 1) (gnil)
  stored_rawtype unit = gcons (gnum 2) (gnil)
  stored_rawtype (product a0) = gcons (gnum 3) (gcons (stored_rawtypes a0) gnil)
  stored_rawtype (named a0 a1) = gcons (gnum 4) (gcons (spelling_row.the_row.coded.code a0) (gcons (stored_rawtypes a1) gnil))
  stored_rawtype (exit a0 a1) = gcons (gnum 5) (gcons (stored_rawtype a0) (gcons (stored_rawtype a1) gnil))

  pub stored_rawtypes : RawTypes → Gv
  stored_rawtypes no_rawtypes = gcons (gnum 0) (gnil)
  stored_rawtypes (more_rawtypes a0 a1) = gcons (gnum 1) (gcons (stored_rawtype a0) (gcons (stored_rawtypes a1) gnil))

abbrev Is_integer : RawType → Type 0
Is_integer y = (a0 : IntTy) × (y ≡ integer a0)

abbrev Is_boolean : RawType → Type 0
Is_boolean y = y ≡ boolean

abbrev Is_unit : RawType → Type 0
Is_unit y = y ≡ unit

abbrev Is_product : RawType → Type 0
Is_product y = (a0 : RawTypes) × (y ≡ product a0)

abbrev Is_named : RawType → Type 0
Is_named y = (a0 : Spelling) × ((a1 : RawTypes) × (y ≡ named a0 a1))

abbrev Is_exit : RawType → Type 0
Is_exit y = (a0 : RawType) × ((a1 : RawType) × (y ≡ exit a0 a1))

abbrev Shape_rawtype : ℕ → RawType → Type 0
Shape_rawtype zero y = Is_integer y
Shape_rawtype (suc zero) y = Is_boolean y
Shape_rawtype (suc (suc zero)) y = Is_unit y
Shape_rawtype (suc (suc (suc zero))) y = Is_product y
Shape_rawtype (suc (suc (suc (suc zero)))) y = Is_named y
Shape_rawtype (suc (suc (suc (suc (suc zero))))) y = Is_exit y
Shape_rawtype (suc (suc (suc (suc (suc (suc n)))))) y = ⊥

shape_rawtype : (y : RawType) → Shape_rawtype (num (head (stored_rawtype y))) y
shape_rawtype (integer a0) = (a0, refl)
shape_rawtype boolean = refl
shape_rawtype unit = refl
shape_rawtype (product a0) = (a0, refl)
shape_rawtype (named a0 a1) = (a0, (a1, refl))
shape_rawtype (exit a0 a1) = (a0, (a1, refl))

as_integer : (g : Gv) (y : RawType) → gcons (gnum 0) g ≡ stored_rawtype y → Is_integer y
as_integer g y p = subst (λ n. Shape_rawtype n y) (sym (ap (λ g. num (head g)) p)) (shape_rawtype y)

as_boolean : (g : Gv) (y : RawType) → gcons (gnum 1) g ≡ stored_rawtype y → Is_boolean y
as_boolean g y p = subst (λ n. Shape_rawtype n y) (sym (ap (λ g. num (head g)) p)) (shape_rawtype y)

as_unit : (g : Gv) (y : RawType) → gcons (gnum 2) g ≡ stored_rawtype y → Is_unit y
as_unit g y p = subst (λ n. Shape_rawtype n y) (sym (ap (λ g. num (head g)) p)) (shape_rawtype y)

as_product : (g : Gv) (y : RawType) → gcons (gnum 3) g ≡ stored_rawtype y → Is_product y
as_product g y p = subst (λ n. Shape_rawtype n y) (sym (ap (λ g. num (head g)) p)) (shape_rawtype y)

as_named : (g : Gv) (y : RawType) → gcons (gnum 4) g ≡ stored_rawtype y → Is_named y
as_named g y p = subst (λ n. Shape_rawtype n y) (sym (ap (λ g. num (head g)) p)) (shape_rawtype y)

as_exit : (g : Gv) (y : RawType) → gcons (gnum 5) g ≡ stored_rawtype y → Is_exit y
as_exit g y p = subst (λ n. Shape_rawtype n y) (sym (ap (λ g. num (head g)) p)) (shape_rawtype y)

abbrev Is_no_rawtypes : RawTypes → Type 0
Is_no_rawtypes y = y ≡ no_rawtypes

abbrev Is_more_rawtypes : RawTypes → Type 0
Is_more_rawtypes y = (a0 : RawType) × ((a1 : RawTypes) × (y ≡ more_rawtypes a0 a1))

abbrev Shape_rawtypes : ℕ → RawTypes → Type 0
Shape_rawtypes zero y = Is_no_rawtypes y
Shape_rawtypes (suc zero) y = Is_more_rawtypes y
Shape_rawtypes (suc (suc n)) y = ⊥

shape_rawtypes : (y : RawTypes) → Shape_rawtypes (num (head (stored_rawtypes y))) y
shape_rawtypes no_rawtypes = refl
shape_rawtypes (more_rawtypes a0 a1) = (a0, (a1, refl))

as_no_rawtypes : (g : Gv) (y : RawTypes) → gcons (gnum 0) g ≡ stored_rawtypes y → Is_no_rawtypes y
as_no_rawtypes g y p = subst (λ n. Shape_rawtypes n y) (sym (ap (λ g. num (head g)) p)) (shape_rawtypes y)

as_more_rawtypes : (g : Gv) (y : RawTypes) → gcons (gnum 1) g ≡ stored_rawtypes y → Is_more_rawtypes y
as_more_rawtypes g y p = subst (λ n. Shape_rawtypes n y) (sym (ap (λ g. num (head g)) p)) (shape_rawtypes y)

mutual
  pub inj_rawtype : (x y : RawType) → stored_rawtype x ≡ stored_rawtype y → x ≡ y
  inj_rawtype (integer a0) y q =
      let w = as_integer (gcons (intty_row.the_row.coded.code a0) gnil) y q in
      let p : stored_rawtype (integer a0) ≡ stored_rawtype (integer w.0) = q ∙ ap stored_rawtype (w.1) in
      (λ i. integer (intty_row.the_row.coded.inj a0 w.0 (ap (λ g. head (tail g)) p) i)) ∙ sym (w.1)
  inj_rawtype boolean y q =
      let w = as_boolean (gnil) y q in
      sym w
  inj_rawtype unit y q =
      let w = as_unit (gnil) y q in
      sym w
  inj_rawtype (product a0) y q =
      let w = as_product (gcons (stored_rawtypes a0) gnil) y q in
      let p : stored_rawtype (product a0) ≡ stored_rawtype (product w.0) = q ∙ ap stored_rawtype (w.1) in
      (λ i. product (inj_rawtypes a0 w.0 (ap (λ g. head (tail g)) p) i)) ∙ sym (w.1)
  inj_rawtype (named a0 a1) y q =
      let w = as_named (gcons (spelling_row.the_row.coded.code a0) (gcons (stored_rawtypes a1) gnil)) y q in
      let p : stored_rawtype (named a0 a1) ≡ stored_rawtype (named w.0 w.1.0) = q ∙ ap stored_rawtype (w.1.1) in
      (λ i. named (spelling_row.the_row.coded.inj a0 w.0 (ap (λ g. head (tail g)) p) i) (inj_rawtypes a1 w.1.0 (ap (λ g. head (tail (tail g))) p) i)) ∙ sym (w.1.1)
  inj_rawtype (exit a0 a1) y q =
      let w = as_exit (gcons (stored_rawtype a0) (gcons (stored_rawtype a1) gnil)) y q in
      let p : stored_rawtype (exit a0 a1) ≡ stored_rawtype (exit w.0 w.1.0) = q ∙ ap stored_rawtype (w.1.1) in
      (λ i. exit (inj_rawtype a0 w.0 (ap (λ g. head (tail g)) p) i) (inj_rawtype a1 w.1.0 (ap (λ g. head (tail (tail g))) p) i)) ∙ sym (w.1.1)

  pub inj_rawtypes : (x y : RawTypes) → stored_rawtypes x ≡ stored_rawtypes y → x ≡ y
  inj_rawtypes no_rawtypes y q =
      let w = as_no_rawtypes (gnil) y q in
      sym w
  inj_rawtypes (more_rawtypes a0 a1) y q =
      let w = as_more_rawtypes (gcons (stored_rawtype a0) (gcons (stored_rawtypes a1) gnil)) y q in
      let p : stored_rawtypes (more_rawtypes a0 a1) ≡ stored_rawtypes (more_rawtypes w.0 w.1.0) = q ∙ ap stored_rawtypes (w.1.1) in
      (λ i. more_rawtypes (inj_rawtype a0 w.0 (ap (λ g. head (tail g)) p) i) (inj_rawtypes a1 w.1.0 (ap (λ g. head (tail (tail g))) p) i)) ∙ sym (w.1.1)

abbrev pub coded_rawtype : Coded RawType
coded_rawtype = record { code = stored_rawtype; inj = inj_rawtype }

abbrev pub coded_rawtypes : Coded RawTypes
coded_rawtypes = record { code = stored_rawtypes; inj = inj_rawtypes }
