-- The trees that stand in cells (LANGUAGE.md, "Memory").
-- Made by tools/trees.py from tools/mach_mem.desc.py.
use Rattle.std.specs.Prelude.{◌≡◌, ℕ, zero, suc, ◌+◌, Bool, List, [], ◌∷◌, refl}
use Rattle.std.specs.Coded.{Coded, coded_ℕ, coded_bool}
use Rattle.std.proofs.Common.{ap, sym, ◌∙◌, subst}
use base.Stored.{Gv, gnil, gnum, gcons, num}
use Rattle.aen_base.specs.Numbers.{Number, coded_number}
use Rattle.aen_base.specs.declared.ids.TypeId.{TypeId}
use Rattle.aen_base.specs.contracts.ids.TypeId as type_id
use Rattle.mach_mem.specs.Addresses.{CellNumber, Address, coded_address}

abbrev head : Gv → Gv
head gnil = gnil
head (gnum n) = gnil
head (gcons a b) = a

abbrev tail : Gv → Gv
tail gnil = gnil
tail (gnum n) = gnil
tail (gcons a b) = b

mutual
  pub data MTree : Type 0 where
    whole : Number → MTree
    truth : Bool → MTree
    tuple : MTrees → MTree
    ctor : TypeId → ℕ → MTrees → MTree
    box_at : CellNumber → MTree
    ptr : Address → MTree

  pub data MTrees : Type 0 where
    no_mtrees : MTrees
    more_mtrees : MTree → MTrees → MTrees

abbrev pub mtrees : List (MTree) → MTrees
mtrees [] = no_mtrees
mtrees (x ∷ xs) = more_mtrees x (mtrees xs)

abbrev pub mtrees_list : MTrees → List (MTree)
mtrees_list no_mtrees = []
mtrees_list (more_mtrees a0 r) = a0 ∷ mtrees_list r

pub mtrees_back : (xs : List (MTree)) → mtrees_list (mtrees xs) ≡ xs
mtrees_back [] = refl
mtrees_back (x ∷ xs) = ap (λ r. x ∷ r) (mtrees_back xs)

pub mtrees_inj : (xs ys : List (MTree)) → mtrees xs ≡ mtrees ys → xs ≡ ys
mtrees_inj xs ys p = sym (mtrees_back xs) ∙ ap mtrees_list p ∙ mtrees_back ys

abbrev mutual
  pub nodes_mtree : MTree → ℕ
  nodes_mtree (whole a0) = 1
  nodes_mtree (truth a0) = 1
  nodes_mtree (tuple a0) = nodes_mtrees a0 + 1
  nodes_mtree (ctor a0 a1 a2) = nodes_mtrees a2 + 1
  nodes_mtree (box_at a0) = 1
  nodes_mtree (ptr a0) = 1

  pub nodes_mtrees : MTrees → ℕ
  nodes_mtrees no_mtrees = 1
  nodes_mtrees (more_mtrees a0 a1) = nodes_mtree a0 + nodes_mtrees a1 + 1

abbrev mutual
  pub stored_mtree : MTree → Gv
  stored_mtree (whole a0) = gcons (gnum 0) (gcons (coded_number.code a0) gnil)
  stored_mtree (truth a0) = gcons (gnum 1) (gcons (coded_bool.code a0) gnil)
  stored_mtree (tuple a0) = gcons (gnum 2) (gcons (stored_mtrees a0) gnil)
  stored_mtree (ctor a0 a1 a2) = gcons (gnum 3) (gcons (type_id.the_row.coded.code a0) (gcons (coded_ℕ.code a1) (gcons (stored_mtrees a2) gnil)))
  stored_mtree (box_at a0) = gcons (gnum 4) (gcons (coded_ℕ.code a0) gnil)
  stored_mtree (ptr a0) = gcons (gnum 5) (gcons (coded_address.code a0) gnil)

  pub stored_mtrees : MTrees → Gv
  stored_mtrees no_mtrees = gcons (gnum 0) (gnil)
  stored_mtrees (more_mtrees a0 a1) = gcons (gnum 1) (gcons (stored_mtree a0) (gcons (stored_mtrees a1) gnil))

abbrev Is_whole : MTree → Type 0
Is_whole y = (a0 : Number) × (y ≡ whole a0)

abbrev Is_truth : MTree → Type 0
Is_truth y = (a0 : Bool) × (y ≡ truth a0)

abbrev Is_tuple : MTree → Type 0
Is_tuple y = (a0 : MTrees) × (y ≡ tuple a0)

abbrev Is_ctor : MTree → Type 0
Is_ctor y = (a0 : TypeId) × ((a1 : ℕ) × ((a2 : MTrees) × (y ≡ ctor a0 a1 a2)))

abbrev Is_box_at : MTree → Type 0
Is_box_at y = (a0 : CellNumber) × (y ≡ box_at a0)

abbrev Is_ptr : MTree → Type 0
Is_ptr y = (a0 : Address) × (y ≡ ptr a0)

abbrev Shape_mtree : ℕ → MTree → Type 0
Shape_mtree zero y = Is_whole y
Shape_mtree (suc zero) y = Is_truth y
Shape_mtree (suc (suc zero)) y = Is_tuple y
Shape_mtree (suc (suc (suc zero))) y = Is_ctor y
Shape_mtree (suc (suc (suc (suc zero)))) y = Is_box_at y
Shape_mtree (suc (suc (suc (suc (suc zero))))) y = Is_ptr y
Shape_mtree (suc (suc (suc (suc (suc (suc n)))))) y = ⊥

shape_mtree : (y : MTree) → Shape_mtree (num (head (stored_mtree y))) y
shape_mtree (whole a0) = (a0, refl)
shape_mtree (truth a0) = (a0, refl)
shape_mtree (tuple a0) = (a0, refl)
shape_mtree (ctor a0 a1 a2) = (a0, (a1, (a2, refl)))
shape_mtree (box_at a0) = (a0, refl)
shape_mtree (ptr a0) = (a0, refl)

as_whole : (g : Gv) (y : MTree) → gcons (gnum 0) g ≡ stored_mtree y → Is_whole y
as_whole g y p = subst (λ n. Shape_mtree n y) (sym (ap (λ g. num (head g)) p)) (shape_mtree y)

as_truth : (g : Gv) (y : MTree) → gcons (gnum 1) g ≡ stored_mtree y → Is_truth y
as_truth g y p = subst (λ n. Shape_mtree n y) (sym (ap (λ g. num (head g)) p)) (shape_mtree y)

as_tuple : (g : Gv) (y : MTree) → gcons (gnum 2) g ≡ stored_mtree y → Is_tuple y
as_tuple g y p = subst (λ n. Shape_mtree n y) (sym (ap (λ g. num (head g)) p)) (shape_mtree y)

as_ctor : (g : Gv) (y : MTree) → gcons (gnum 3) g ≡ stored_mtree y → Is_ctor y
as_ctor g y p = subst (λ n. Shape_mtree n y) (sym (ap (λ g. num (head g)) p)) (shape_mtree y)

as_box_at : (g : Gv) (y : MTree) → gcons (gnum 4) g ≡ stored_mtree y → Is_box_at y
as_box_at g y p = subst (λ n. Shape_mtree n y) (sym (ap (λ g. num (head g)) p)) (shape_mtree y)

as_ptr : (g : Gv) (y : MTree) → gcons (gnum 5) g ≡ stored_mtree y → Is_ptr y
as_ptr g y p = subst (λ n. Shape_mtree n y) (sym (ap (λ g. num (head g)) p)) (shape_mtree y)

abbrev Is_no_mtrees : MTrees → Type 0
Is_no_mtrees y = y ≡ no_mtrees

abbrev Is_more_mtrees : MTrees → Type 0
Is_more_mtrees y = (a0 : MTree) × ((a1 : MTrees) × (y ≡ more_mtrees a0 a1))

abbrev Shape_mtrees : ℕ → MTrees → Type 0
Shape_mtrees zero y = Is_no_mtrees y
Shape_mtrees (suc zero) y = Is_more_mtrees y
Shape_mtrees (suc (suc n)) y = ⊥

shape_mtrees : (y : MTrees) → Shape_mtrees (num (head (stored_mtrees y))) y
shape_mtrees no_mtrees = refl
shape_mtrees (more_mtrees a0 a1) = (a0, (a1, refl))

as_no_mtrees : (g : Gv) (y : MTrees) → gcons (gnum 0) g ≡ stored_mtrees y → Is_no_mtrees y
as_no_mtrees g y p = subst (λ n. Shape_mtrees n y) (sym (ap (λ g. num (head g)) p)) (shape_mtrees y)

as_more_mtrees : (g : Gv) (y : MTrees) → gcons (gnum 1) g ≡ stored_mtrees y → Is_more_mtrees y
as_more_mtrees g y p = subst (λ n. Shape_mtrees n y) (sym (ap (λ g. num (head g)) p)) (shape_mtrees y)

mutual
  pub inj_mtree : (x y : MTree) → stored_mtree x ≡ stored_mtree y → x ≡ y
  inj_mtree (whole a0) y q =
      let w = as_whole (gcons (coded_number.code a0) gnil) y q in
      let p : stored_mtree (whole a0) ≡ stored_mtree (whole w.0) = q ∙ ap stored_mtree (w.1) in
      (λ i. whole (coded_number.inj a0 w.0 (ap (λ g. head (tail g)) p) i)) ∙ sym (w.1)
  inj_mtree (truth a0) y q =
      let w = as_truth (gcons (coded_bool.code a0) gnil) y q in
      let p : stored_mtree (truth a0) ≡ stored_mtree (truth w.0) = q ∙ ap stored_mtree (w.1) in
      (λ i. truth (coded_bool.inj a0 w.0 (ap (λ g. head (tail g)) p) i)) ∙ sym (w.1)
  inj_mtree (tuple a0) y q =
      let w = as_tuple (gcons (stored_mtrees a0) gnil) y q in
      let p : stored_mtree (tuple a0) ≡ stored_mtree (tuple w.0) = q ∙ ap stored_mtree (w.1) in
      (λ i. tuple (inj_mtrees a0 w.0 (ap (λ g. head (tail g)) p) i)) ∙ sym (w.1)
  inj_mtree (ctor a0 a1 a2) y q =
      let w = as_ctor (gcons (type_id.the_row.coded.code a0) (gcons (coded_ℕ.code a1) (gcons (stored_mtrees a2) gnil))) y q in
      let p : stored_mtree (ctor a0 a1 a2) ≡ stored_mtree (ctor w.0 w.1.0 w.1.1.0) = q ∙ ap stored_mtree (w.1.1.1) in
      (λ i. ctor (type_id.the_row.coded.inj a0 w.0 (ap (λ g. head (tail g)) p) i) (coded_ℕ.inj a1 w.1.0 (ap (λ g. head (tail (tail g))) p) i) (inj_mtrees a2 w.1.1.0 (ap (λ g. head (tail (tail (tail g)))) p) i)) ∙ sym (w.1.1.1)
  inj_mtree (box_at a0) y q =
      let w = as_box_at (gcons (coded_ℕ.code a0) gnil) y q in
      let p : stored_mtree (box_at a0) ≡ stored_mtree (box_at w.0) = q ∙ ap stored_mtree (w.1) in
      (λ i. box_at (coded_ℕ.inj a0 w.0 (ap (λ g. head (tail g)) p) i)) ∙ sym (w.1)
  inj_mtree (ptr a0) y q =
      let w = as_ptr (gcons (coded_address.code a0) gnil) y q in
      let p : stored_mtree (ptr a0) ≡ stored_mtree (ptr w.0) = q ∙ ap stored_mtree (w.1) in
      (λ i. ptr (coded_address.inj a0 w.0 (ap (λ g. head (tail g)) p) i)) ∙ sym (w.1)

  pub inj_mtrees : (x y : MTrees) → stored_mtrees x ≡ stored_mtrees y → x ≡ y
  inj_mtrees no_mtrees y q =
      let w = as_no_mtrees (gnil) y q in
      sym w
  inj_mtrees (more_mtrees a0 a1) y q =
      let w = as_more_mtrees (gcons (stored_mtree a0) (gcons (stored_mtrees a1) gnil)) y q in
      let p : stored_mtrees (more_mtrees a0 a1) ≡ stored_mtrees (more_mtrees w.0 w.1.0) = q ∙ ap stored_mtrees (w.1.1) in
      (λ i. more_mtrees (inj_mtree a0 w.0 (ap (λ g. head (tail g)) p) i) (inj_mtrees a1 w.1.0 (ap (λ g. head (tail (tail g))) p) i)) ∙ sym (w.1.1)

abbrev pub coded_mtree : Coded MTree
coded_mtree = record { code = stored_mtree; inj = inj_mtree }

abbrev pub coded_mtrees : Coded MTrees
coded_mtrees = record { code = stored_mtrees; inj = inj_mtrees }
