-- Made by tools/trees.py from tools/terms.desc.py: the terms of the printed language as data
-- (TEXT.md, "Terms").
use Rattle.std.specs.Prelude.{◌≡◌, ℕ, zero, suc, ◌+◌, Bool, List, [], ◌∷◌, refl}
use Rattle.std.specs.Coded.{Coded, coded_ℕ, coded_bool}
use Rattle.std.proofs.Common.{ap, sym, ◌∙◌, subst}
use base.Stored.{Gv, gnil, gnum, gcons, num}
use Rattle.aen_base.specs.Numbers.{Number, coded_number}
use Rattle.pure_ast.specs.declared.ctor.CtorId.{CtorId}
use Rattle.pure_ast.specs.contracts.ctor.CtorId as ctor_id

abbrev head : Gv → Gv
head gnil = gnil
head (gnum n) = gnil
head (gcons a b) = a

abbrev tail : Gv → Gv
tail gnil = gnil
tail (gnum n) = gnil
tail (gcons a b) = b

mutual
  pub data Term : Type 0 where
    var : ℕ → Term
    literal : Number → Term
    truth : Bool → Term
    tuple : Terms → Term
    built : CtorId → Terms → Term

  pub data Terms : Type 0 where
    no_terms : Terms
    more_terms : Term → Terms → Terms

abbrev pub terms : List (Term) → Terms
terms [] = no_terms
terms (x ∷ xs) = more_terms x (terms xs)

abbrev pub terms_list : Terms → List (Term)
terms_list no_terms = []
terms_list (more_terms a0 r) = a0 ∷ terms_list r

pub terms_back : (xs : List (Term)) → terms_list (terms xs) ≡ xs
terms_back [] = refl
terms_back (x ∷ xs) = ap (λ r. x ∷ r) (terms_back xs)

pub terms_inj : (xs ys : List (Term)) → terms xs ≡ terms ys → xs ≡ ys
terms_inj xs ys p = sym (terms_back xs) ∙ ap terms_list p ∙ terms_back ys

abbrev mutual
  pub nodes_term : Term → ℕ
  nodes_term (var a0) = 1
  nodes_term (literal a0) = 1
  nodes_term (truth a0) = 1
  nodes_term (tuple a0) = nodes_terms a0 + 1
  nodes_term (built a0 a1) = nodes_terms a1 + 1

  pub nodes_terms : Terms → ℕ
  nodes_terms no_terms = 1
  nodes_terms (more_terms a0 a1) = nodes_term a0 + nodes_terms a1 + 1

abbrev mutual
  pub stored_term : Term → Gv
  stored_term (var a0) = gcons (gnum 0) (gcons (coded_ℕ.code a0) gnil)
  stored_term (literal a0) = gcons (gnum 1) (gcons (coded_number.code a0) gnil)
  stored_term (truth a0) = gcons (gnum 2) (gcons (coded_bool.code a0) gnil)
  stored_term (tuple a0) = gcons (gnum 3) (gcons (stored_terms a0) gnil)
  stored_term (built a0 a1) = gcons (gnum 4) (gcons (ctor_id.the_row.coded.code a0) (gcons (stored_terms a1) gnil))

  pub stored_terms : Terms → Gv
  stored_terms no_terms = gcons (gnum 0) (gnil)
  stored_terms (more_terms a0 a1) = gcons (gnum 1) (gcons (stored_term a0) (gcons (stored_terms a1) gnil))

abbrev Is_var : Term → Type 0
Is_var y = (a0 : ℕ) × (y ≡ var a0)

abbrev Is_literal : Term → Type 0
Is_literal y = (a0 : Number) × (y ≡ literal a0)

abbrev Is_truth : Term → Type 0
Is_truth y = (a0 : Bool) × (y ≡ truth a0)

abbrev Is_tuple : Term → Type 0
Is_tuple y = (a0 : Terms) × (y ≡ tuple a0)

abbrev Is_built : Term → Type 0
Is_built y = (a0 : CtorId) × ((a1 : Terms) × (y ≡ built a0 a1))

abbrev Shape_term : ℕ → Term → Type 0
Shape_term zero y = Is_var y
Shape_term (suc zero) y = Is_literal y
Shape_term (suc (suc zero)) y = Is_truth y
Shape_term (suc (suc (suc zero))) y = Is_tuple y
Shape_term (suc (suc (suc (suc zero)))) y = Is_built y
Shape_term (suc (suc (suc (suc (suc n))))) y = ⊥

shape_term : (y : Term) → Shape_term (num (head (stored_term y))) y
shape_term (var a0) = (a0, refl)
shape_term (literal a0) = (a0, refl)
shape_term (truth a0) = (a0, refl)
shape_term (tuple a0) = (a0, refl)
shape_term (built a0 a1) = (a0, (a1, refl))

as_var : (g : Gv) (y : Term) → gcons (gnum 0) g ≡ stored_term y → Is_var y
as_var g y p = subst (λ n. Shape_term n y) (sym (ap (λ g. num (head g)) p)) (shape_term y)

as_literal : (g : Gv) (y : Term) → gcons (gnum 1) g ≡ stored_term y → Is_literal y
as_literal g y p = subst (λ n. Shape_term n y) (sym (ap (λ g. num (head g)) p)) (shape_term y)

as_truth : (g : Gv) (y : Term) → gcons (gnum 2) g ≡ stored_term y → Is_truth y
as_truth g y p = subst (λ n. Shape_term n y) (sym (ap (λ g. num (head g)) p)) (shape_term y)

as_tuple : (g : Gv) (y : Term) → gcons (gnum 3) g ≡ stored_term y → Is_tuple y
as_tuple g y p = subst (λ n. Shape_term n y) (sym (ap (λ g. num (head g)) p)) (shape_term y)

as_built : (g : Gv) (y : Term) → gcons (gnum 4) g ≡ stored_term y → Is_built y
as_built g y p = subst (λ n. Shape_term n y) (sym (ap (λ g. num (head g)) p)) (shape_term y)

abbrev Is_no_terms : Terms → Type 0
Is_no_terms y = y ≡ no_terms

abbrev Is_more_terms : Terms → Type 0
Is_more_terms y = (a0 : Term) × ((a1 : Terms) × (y ≡ more_terms a0 a1))

abbrev Shape_terms : ℕ → Terms → Type 0
Shape_terms zero y = Is_no_terms y
Shape_terms (suc zero) y = Is_more_terms y
Shape_terms (suc (suc n)) y = ⊥

shape_terms : (y : Terms) → Shape_terms (num (head (stored_terms y))) y
shape_terms no_terms = refl
shape_terms (more_terms a0 a1) = (a0, (a1, refl))

as_no_terms : (g : Gv) (y : Terms) → gcons (gnum 0) g ≡ stored_terms y → Is_no_terms y
as_no_terms g y p = subst (λ n. Shape_terms n y) (sym (ap (λ g. num (head g)) p)) (shape_terms y)

as_more_terms : (g : Gv) (y : Terms) → gcons (gnum 1) g ≡ stored_terms y → Is_more_terms y
as_more_terms g y p = subst (λ n. Shape_terms n y) (sym (ap (λ g. num (head g)) p)) (shape_terms y)

mutual
  pub inj_term : (x y : Term) → stored_term x ≡ stored_term y → x ≡ y
  inj_term (var a0) y q =
      let w = as_var (gcons (coded_ℕ.code a0) gnil) y q in
      let p : stored_term (var a0) ≡ stored_term (var w.0) = q ∙ ap stored_term (w.1) in
      (λ i. var (coded_ℕ.inj a0 w.0 (ap (λ g. head (tail g)) p) i)) ∙ sym (w.1)
  inj_term (literal a0) y q =
      let w = as_literal (gcons (coded_number.code a0) gnil) y q in
      let p : stored_term (literal a0) ≡ stored_term (literal w.0) = q ∙ ap stored_term (w.1) in
      (λ i. literal (coded_number.inj a0 w.0 (ap (λ g. head (tail g)) p) i)) ∙ sym (w.1)
  inj_term (truth a0) y q =
      let w = as_truth (gcons (coded_bool.code a0) gnil) y q in
      let p : stored_term (truth a0) ≡ stored_term (truth w.0) = q ∙ ap stored_term (w.1) in
      (λ i. truth (coded_bool.inj a0 w.0 (ap (λ g. head (tail g)) p) i)) ∙ sym (w.1)
  inj_term (tuple a0) y q =
      let w = as_tuple (gcons (stored_terms a0) gnil) y q in
      let p : stored_term (tuple a0) ≡ stored_term (tuple w.0) = q ∙ ap stored_term (w.1) in
      (λ i. tuple (inj_terms a0 w.0 (ap (λ g. head (tail g)) p) i)) ∙ sym (w.1)
  inj_term (built a0 a1) y q =
      let w = as_built (gcons (ctor_id.the_row.coded.code a0) (gcons (stored_terms a1) gnil)) y q in
      let p : stored_term (built a0 a1) ≡ stored_term (built w.0 w.1.0) = q ∙ ap stored_term (w.1.1) in
      (λ i. built (ctor_id.the_row.coded.inj a0 w.0 (ap (λ g. head (tail g)) p) i) (inj_terms a1 w.1.0 (ap (λ g. head (tail (tail g))) p) i)) ∙ sym (w.1.1)

  pub inj_terms : (x y : Terms) → stored_terms x ≡ stored_terms y → x ≡ y
  inj_terms no_terms y q =
      let w = as_no_terms (gnil) y q in
      sym w
  inj_terms (more_terms a0 a1) y q =
      let w = as_more_terms (gcons (stored_term a0) (gcons (stored_terms a1) gnil)) y q in
      let p : stored_terms (more_terms a0 a1) ≡ stored_terms (more_terms w.0 w.1.0) = q ∙ ap stored_terms (w.1.1) in
      (λ i. more_terms (inj_term a0 w.0 (ap (λ g. head (tail g)) p) i) (inj_terms a1 w.1.0 (ap (λ g. head (tail (tail g))) p) i)) ∙ sym (w.1.1)

abbrev pub coded_term : Coded Term
coded_term = record { code = stored_term; inj = inj_term }

abbrev pub coded_terms : Coded Terms
coded_terms = record { code = stored_terms; inj = inj_terms }
