-- Made by tools/trees.py from tools/values.desc.py: the values of the printed language as data
-- (TEXT.md, "Values").
use Rattle.std.specs.Prelude.{◌≡◌, ℕ, zero, suc, ◌+◌, Bool, List, [], ◌∷◌, refl}
use Rattle.std.specs.Coded.{Coded, coded_bool}
use Rattle.std.proofs.Common.{ap, sym, ◌∙◌, subst}
use base.Stored.{Gv, gnil, gnum, gcons, num}
use Rattle.aen_base.specs.Numbers.{Number, coded_number}
use Rattle.pure_ast.specs.declared.ctor.CtorId.{CtorId}
use Rattle.pure_ast.specs.contracts.ctor.CtorId as ctor_id

abbrev head : Gv → Gv
head gnil = gnil
head (gnum n) = gnil
head (gcons a b) = a

abbrev tail : Gv → Gv
tail gnil = gnil
tail (gnum n) = gnil
tail (gcons a b) = b

mutual
  pub data PValue : Type 0 where
    number : Number → PValue
    truth : Bool → PValue
    tuple : PValues → PValue
    built : CtorId → PValues → PValue

  pub data PValues : Type 0 where
    no_pvalues : PValues
    more_pvalues : PValue → PValues → PValues

abbrev pub pvalues : List (PValue) → PValues
pvalues [] = no_pvalues
pvalues (x ∷ xs) = more_pvalues x (pvalues xs)

abbrev pub pvalues_list : PValues → List (PValue)
pvalues_list no_pvalues = []
pvalues_list (more_pvalues a0 r) = a0 ∷ pvalues_list r

pub pvalues_back : (xs : List (PValue)) → pvalues_list (pvalues xs) ≡ xs
pvalues_back [] = refl
pvalues_back (x ∷ xs) = ap (λ r. x ∷ r) (pvalues_back xs)

pub pvalues_inj : (xs ys : List (PValue)) → pvalues xs ≡ pvalues ys → xs ≡ ys
pvalues_inj xs ys p = sym (pvalues_back xs) ∙ ap pvalues_list p ∙ pvalues_back ys

abbrev mutual
  pub nodes_pvalue : PValue → ℕ
  nodes_pvalue (number a0) = 1
  nodes_pvalue (truth a0) = 1
  nodes_pvalue (tuple a0) = nodes_pvalues a0 + 1
  nodes_pvalue (built a0 a1) = nodes_pvalues a1 + 1

  pub nodes_pvalues : PValues → ℕ
  nodes_pvalues no_pvalues = 1
  nodes_pvalues (more_pvalues a0 a1) = nodes_pvalue a0 + nodes_pvalues a1 + 1

abbrev mutual
  pub stored_pvalue : PValue → Gv
  stored_pvalue (number a0) = gcons (gnum 0) (gcons (coded_number.code a0) gnil)
  stored_pvalue (truth a0) = gcons (gnum 1) (gcons (coded_bool.code a0) gnil)
  stored_pvalue (tuple a0) = gcons (gnum 2) (gcons (stored_pvalues a0) gnil)
  stored_pvalue (built a0 a1) = gcons (gnum 3) (gcons (ctor_id.the_row.coded.code a0) (gcons (stored_pvalues a1) gnil))

  pub stored_pvalues : PValues → Gv
  stored_pvalues no_pvalues = gcons (gnum 0) (gnil)
  stored_pvalues (more_pvalues a0 a1) = gcons (gnum 1) (gcons (stored_pvalue a0) (gcons (stored_pvalues a1) gnil))

abbrev Is_number : PValue → Type 0
Is_number y = (a0 : Number) × (y ≡ number a0)

abbrev Is_truth : PValue → Type 0
Is_truth y = (a0 : Bool) × (y ≡ truth a0)

abbrev Is_tuple : PValue → Type 0
Is_tuple y = (a0 : PValues) × (y ≡ tuple a0)

abbrev Is_built : PValue → Type 0
Is_built y = (a0 : CtorId) × ((a1 : PValues) × (y ≡ built a0 a1))

abbrev Shape_pvalue : ℕ → PValue → Type 0
Shape_pvalue zero y = Is_number y
Shape_pvalue (suc zero) y = Is_truth y
Shape_pvalue (suc (suc zero)) y = Is_tuple y
Shape_pvalue (suc (suc (suc zero))) y = Is_built y
Shape_pvalue (suc (suc (suc (suc n)))) y = ⊥

shape_pvalue : (y : PValue) → Shape_pvalue (num (head (stored_pvalue y))) y
shape_pvalue (number a0) = (a0, refl)
shape_pvalue (truth a0) = (a0, refl)
shape_pvalue (tuple a0) = (a0, refl)
shape_pvalue (built a0 a1) = (a0, (a1, refl))

as_number : (g : Gv) (y : PValue) → gcons (gnum 0) g ≡ stored_pvalue y → Is_number y
as_number g y p = subst (λ n. Shape_pvalue n y) (sym (ap (λ g. num (head g)) p)) (shape_pvalue y)

as_truth : (g : Gv) (y : PValue) → gcons (gnum 1) g ≡ stored_pvalue y → Is_truth y
as_truth g y p = subst (λ n. Shape_pvalue n y) (sym (ap (λ g. num (head g)) p)) (shape_pvalue y)

as_tuple : (g : Gv) (y : PValue) → gcons (gnum 2) g ≡ stored_pvalue y → Is_tuple y
as_tuple g y p = subst (λ n. Shape_pvalue n y) (sym (ap (λ g. num (head g)) p)) (shape_pvalue y)

as_built : (g : Gv) (y : PValue) → gcons (gnum 3) g ≡ stored_pvalue y → Is_built y
as_built g y p = subst (λ n. Shape_pvalue n y) (sym (ap (λ g. num (head g)) p)) (shape_pvalue y)

abbrev Is_no_pvalues : PValues → Type 0
Is_no_pvalues y = y ≡ no_pvalues

abbrev Is_more_pvalues : PValues → Type 0
Is_more_pvalues y = (a0 : PValue) × ((a1 : PValues) × (y ≡ more_pvalues a0 a1))

abbrev Shape_pvalues : ℕ → PValues → Type 0
Shape_pvalues zero y = Is_no_pvalues y
Shape_pvalues (suc zero) y = Is_more_pvalues y
Shape_pvalues (suc (suc n)) y = ⊥

shape_pvalues : (y : PValues) → Shape_pvalues (num (head (stored_pvalues y))) y
shape_pvalues no_pvalues = refl
shape_pvalues (more_pvalues a0 a1) = (a0, (a1, refl))

as_no_pvalues : (g : Gv) (y : PValues) → gcons (gnum 0) g ≡ stored_pvalues y → Is_no_pvalues y
as_no_pvalues g y p = subst (λ n. Shape_pvalues n y) (sym (ap (λ g. num (head g)) p)) (shape_pvalues y)

as_more_pvalues : (g : Gv) (y : PValues) → gcons (gnum 1) g ≡ stored_pvalues y → Is_more_pvalues y
as_more_pvalues g y p = subst (λ n. Shape_pvalues n y) (sym (ap (λ g. num (head g)) p)) (shape_pvalues y)

mutual
  pub inj_pvalue : (x y : PValue) → stored_pvalue x ≡ stored_pvalue y → x ≡ y
  inj_pvalue (number a0) y q =
      let w = as_number (gcons (coded_number.code a0) gnil) y q in
      let p : stored_pvalue (number a0) ≡ stored_pvalue (number w.0) = q ∙ ap stored_pvalue (w.1) in
      (λ i. number (coded_number.inj a0 w.0 (ap (λ g. head (tail g)) p) i)) ∙ sym (w.1)
  inj_pvalue (truth a0) y q =
      let w = as_truth (gcons (coded_bool.code a0) gnil) y q in
      let p : stored_pvalue (truth a0) ≡ stored_pvalue (truth w.0) = q ∙ ap stored_pvalue (w.1) in
      (λ i. truth (coded_bool.inj a0 w.0 (ap (λ g. head (tail g)) p) i)) ∙ sym (w.1)
  inj_pvalue (tuple a0) y q =
      let w = as_tuple (gcons (stored_pvalues a0) gnil) y q in
      let p : stored_pvalue (tuple a0) ≡ stored_pvalue (tuple w.0) = q ∙ ap stored_pvalue (w.1) in
      (λ i. tuple (inj_pvalues a0 w.0 (ap (λ g. head (tail g)) p) i)) ∙ sym (w.1)
  inj_pvalue (built a0 a1) y q =
      let w = as_built (gcons (ctor_id.the_row.coded.code a0) (gcons (stored_pvalues a1) gnil)) y q in
      let p : stored_pvalue (built a0 a1) ≡ stored_pvalue (built w.0 w.1.0) = q ∙ ap stored_pvalue (w.1.1) in
      (λ i. built (ctor_id.the_row.coded.inj a0 w.0 (ap (λ g. head (tail g)) p) i) (inj_pvalues a1 w.1.0 (ap (λ g. head (tail (tail g))) p) i)) ∙ sym (w.1.1)

  pub inj_pvalues : (x y : PValues) → stored_pvalues x ≡ stored_pvalues y → x ≡ y
  inj_pvalues no_pvalues y q =
      let w = as_no_pvalues (gnil) y q in
      sym w
  inj_pvalues (more_pvalues a0 a1) y q =
      let w = as_more_pvalues (gcons (stored_pvalue a0) (gcons (stored_pvalues a1) gnil)) y q in
      let p : stored_pvalues (more_pvalues a0 a1) ≡ stored_pvalues (more_pvalues w.0 w.1.0) = q ∙ ap stored_pvalues (w.1.1) in
      (λ i. more_pvalues (inj_pvalue a0 w.0 (ap (λ g. head (tail g)) p) i) (inj_pvalues a1 w.1.0 (ap (λ g. head (tail (tail g))) p) i)) ∙ sym (w.1.1)

abbrev pub coded_pvalue : Coded PValue
coded_pvalue = record { code = stored_pvalue; inj = inj_pvalue }

abbrev pub coded_pvalues : Coded PValues
coded_pvalues = record { code = stored_pvalues; inj = inj_pvalues }
