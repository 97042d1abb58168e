-- Made by tools/trees.py from tools/code.desc.py: the code of the printed language as data
-- (TEXT.md, "Code").
use Rattle.std.specs.Prelude.{◌≡◌, ℕ, zero, suc, ◌+◌, List, [], ◌∷◌, refl}
use Rattle.std.specs.Coded.{Coded, coded_ℕ}
use Rattle.std.proofs.Common.{ap, sym, ◌∙◌, subst}
use base.Stored.{Gv, gnil, gnum, gcons, num}
use Rattle.pure_ast.specs.Terms.{Term, coded_term}
use Rattle.pure_ast.specs.declared.comp.Comp.{Comp}
use Rattle.pure_ast.specs.contracts.comp.Comp as comp_row
use Rattle.pure_ast.specs.declared.pat.Pat.{Pat}
use Rattle.pure_ast.specs.contracts.pat.Pat as pat_row

abbrev head : Gv → Gv
head gnil = gnil
head (gnum n) = gnil
head (gcons a b) = a

abbrev tail : Gv → Gv
tail gnil = gnil
tail (gnum n) = gnil
tail (gcons a b) = b

mutual
  pub data Code : Type 0 where
    bind : ℕ → Comp → Code → Code
    put : ℕ → Term → Code → Code
    select : Term → Arms → Code
    last : Comp → Code
    bind_select : ℕ → Term → Arms → Code → Code

  pub data Arms : Type 0 where
    no_arms : Arms
    more_arms : Pat → Code → Arms → Arms

abbrev pub arms : List (Pat × Code) → Arms
arms [] = no_arms
arms (x ∷ xs) = more_arms x.0 x.1 (arms xs)

abbrev pub arms_list : Arms → List (Pat × Code)
arms_list no_arms = []
arms_list (more_arms a0 a1 r) = (a0, a1) ∷ arms_list r

pub arms_back : (xs : List (Pat × Code)) → arms_list (arms xs) ≡ xs
arms_back [] = refl
arms_back (x ∷ xs) = ap (λ r. x ∷ r) (arms_back xs)

pub arms_inj : (xs ys : List (Pat × Code)) → arms xs ≡ arms ys → xs ≡ ys
arms_inj xs ys p = sym (arms_back xs) ∙ ap arms_list p ∙ arms_back ys

abbrev mutual
  pub nodes_code : Code → ℕ
  nodes_code (bind a0 a1 a2) = nodes_code a2 + 1
  nodes_code (put a0 a1 a2) = nodes_code a2 + 1
  nodes_code (select a0 a1) = nodes_arms a1 + 1
  nodes_code (last a0) = 1
  nodes_code (bind_select a0 a1 a2 a3) = nodes_arms a2 + nodes_code a3 + 1

  pub nodes_arms : Arms → ℕ
  nodes_arms no_arms = 1
  nodes_arms (more_arms a0 a1 a2) = nodes_code a1 + nodes_arms a2 + 1

abbrev mutual
  pub stored_code : Code → Gv
  stored_code (bind a0 a1 a2) = gcons (gnum 0) (gcons (coded_ℕ.code a0) (gcons (comp_row.the_row.coded.code a1) (gcons (stored_code a2) gnil)))
  stored_code (put a0 a1 a2) = gcons (gnum 1) (gcons (coded_ℕ.code a0) (gcons (coded_term.code a1) (gcons (stored_code a2) gnil)))
  stored_code (select a0 a1) = gcons (gnum 2) (gcons (coded_term.code a0) (gcons (stored_arms a1) gnil))
  stored_code (last a0) = gcons (gnum 3) (gcons (comp_row.the_row.coded.code a0) gnil)
  stored_code (bind_select a0 a1 a2 a3) = gcons (gnum 4) (gcons (coded_ℕ.code a0) (gcons (coded_term.code a1) (gcons (stored_arms a2) (gcons (stored_code a3) gnil))))

  pub stored_arms : Arms → Gv
  stored_arms no_arms = gcons (gnum 0) (gnil)
  stored_arms (more_arms a0 a1 a2) = gcons (gnum 1) (gcons (pat_row.the_row.coded.code a0) (gcons (stored_code a1) (gcons (stored_arms a2) gnil)))

abbrev Is_bind : Code → Type 0
Is_bind y = (a0 : ℕ) × ((a1 : Comp) × ((a2 : Code) × (y ≡ bind a0 a1 a2)))

abbrev Is_put : Code → Type 0
Is_put y = (a0 : ℕ) × ((a1 : Term) × ((a2 : Code) × (y ≡ put a0 a1 a2)))

abbrev Is_select : Code → Type 0
Is_select y = (a0 : Term) × ((a1 : Arms) × (y ≡ select a0 a1))

abbrev Is_last : Code → Type 0
Is_last y = (a0 : Comp) × (y ≡ last a0)

abbrev Is_bind_select : Code → Type 0
Is_bind_select y = (a0 : ℕ) × ((a1 : Term) × ((a2 : Arms) × ((a3 : Code) × (y ≡ bind_select a0 a1 a2 a3))))

abbrev Shape_code : ℕ → Code → Type 0
Shape_code zero y = Is_bind y
Shape_code (suc zero) y = Is_put y
Shape_code (suc (suc zero)) y = Is_select y
Shape_code (suc (suc (suc zero))) y = Is_last y
Shape_code (suc (suc (suc (suc zero)))) y = Is_bind_select y
Shape_code (suc (suc (suc (suc (suc n))))) y = ⊥

shape_code : (y : Code) → Shape_code (num (head (stored_code y))) y
shape_code (bind a0 a1 a2) = (a0, (a1, (a2, refl)))
shape_code (put a0 a1 a2) = (a0, (a1, (a2, refl)))
shape_code (select a0 a1) = (a0, (a1, refl))
shape_code (last a0) = (a0, refl)
shape_code (bind_select a0 a1 a2 a3) = (a0, (a1, (a2, (a3, refl))))

as_bind : (g : Gv) (y : Code) → gcons (gnum 0) g ≡ stored_code y → Is_bind y
as_bind g y p = subst (λ n. Shape_code n y) (sym (ap (λ g. num (head g)) p)) (shape_code y)

as_put : (g : Gv) (y : Code) → gcons (gnum 1) g ≡ stored_code y → Is_put y
as_put g y p = subst (λ n. Shape_code n y) (sym (ap (λ g. num (head g)) p)) (shape_code y)

as_select : (g : Gv) (y : Code) → gcons (gnum 2) g ≡ stored_code y → Is_select y
as_select g y p = subst (λ n. Shape_code n y) (sym (ap (λ g. num (head g)) p)) (shape_code y)

as_last : (g : Gv) (y : Code) → gcons (gnum 3) g ≡ stored_code y → Is_last y
as_last g y p = subst (λ n. Shape_code n y) (sym (ap (λ g. num (head g)) p)) (shape_code y)

as_bind_select : (g : Gv) (y : Code) → gcons (gnum 4) g ≡ stored_code y → Is_bind_select y
as_bind_select g y p = subst (λ n. Shape_code n y) (sym (ap (λ g. num (head g)) p)) (shape_code y)

abbrev Is_no_arms : Arms → Type 0
Is_no_arms y = y ≡ no_arms

abbrev Is_more_arms : Arms → Type 0
Is_more_arms y = (a0 : Pat) × ((a1 : Code) × ((a2 : Arms) × (y ≡ more_arms a0 a1 a2)))

abbrev Shape_arms : ℕ → Arms → Type 0
Shape_arms zero y = Is_no_arms y
Shape_arms (suc zero) y = Is_more_arms y
Shape_arms (suc (suc n)) y = ⊥

shape_arms : (y : Arms) → Shape_arms (num (head (stored_arms y))) y
shape_arms no_arms = refl
shape_arms (more_arms a0 a1 a2) = (a0, (a1, (a2, refl)))

as_no_arms : (g : Gv) (y : Arms) → gcons (gnum 0) g ≡ stored_arms y → Is_no_arms y
as_no_arms g y p = subst (λ n. Shape_arms n y) (sym (ap (λ g. num (head g)) p)) (shape_arms y)

as_more_arms : (g : Gv) (y : Arms) → gcons (gnum 1) g ≡ stored_arms y → Is_more_arms y
as_more_arms g y p = subst (λ n. Shape_arms n y) (sym (ap (λ g. num (head g)) p)) (shape_arms y)

mutual
  pub inj_code : (x y : Code) → stored_code x ≡ stored_code y → x ≡ y
  inj_code (bind a0 a1 a2) y q =
      let w = as_bind (gcons (coded_ℕ.code a0) (gcons (comp_row.the_row.coded.code a1) (gcons (stored_code a2) gnil))) y q in
      let p : stored_code (bind a0 a1 a2) ≡ stored_code (bind w.0 w.1.0 w.1.1.0) = q ∙ ap stored_code (w.1.1.1) in
      (λ i. bind (coded_ℕ.inj a0 w.0 (ap (λ g. head (tail g)) p) i) (comp_row.the_row.coded.inj a1 w.1.0 (ap (λ g. head (tail (tail g))) p) i) (inj_code a2 w.1.1.0 (ap (λ g. head (tail (tail (tail g)))) p) i)) ∙ sym (w.1.1.1)
  inj_code (put a0 a1 a2) y q =
      let w = as_put (gcons (coded_ℕ.code a0) (gcons (coded_term.code a1) (gcons (stored_code a2) gnil))) y q in
      let p : stored_code (put a0 a1 a2) ≡ stored_code (put w.0 w.1.0 w.1.1.0) = q ∙ ap stored_code (w.1.1.1) in
      (λ i. put (coded_ℕ.inj a0 w.0 (ap (λ g. head (tail g)) p) i) (coded_term.inj a1 w.1.0 (ap (λ g. head (tail (tail g))) p) i) (inj_code a2 w.1.1.0 (ap (λ g. head (tail (tail (tail g)))) p) i)) ∙ sym (w.1.1.1)
  inj_code (select a0 a1) y q =
      let w = as_select (gcons (coded_term.code a0) (gcons (stored_arms a1) gnil)) y q in
      let p : stored_code (select a0 a1) ≡ stored_code (select w.0 w.1.0) = q ∙ ap stored_code (w.1.1) in
      (λ i. select (coded_term.inj a0 w.0 (ap (λ g. head (tail g)) p) i) (inj_arms a1 w.1.0 (ap (λ g. head (tail (tail g))) p) i)) ∙ sym (w.1.1)
  inj_code (last a0) y q =
      let w = as_last (gcons (comp_row.the_row.coded.code a0) gnil) y q in
      let p : stored_code (last a0) ≡ stored_code (last w.0) = q ∙ ap stored_code (w.1) in
      (λ i. last (comp_row.the_row.coded.inj a0 w.0 (ap (λ g. head (tail g)) p) i)) ∙ sym (w.1)
  inj_code (bind_select a0 a1 a2 a3) y q =
      let w = as_bind_select (gcons (coded_ℕ.code a0) (gcons (coded_term.code a1) (gcons (stored_arms a2) (gcons (stored_code a3) gnil)))) y q in
      let p : stored_code (bind_select a0 a1 a2 a3) ≡ stored_code (bind_select w.0 w.1.0 w.1.1.0 w.1.1.1.0) = q ∙ ap stored_code (w.1.1.1.1) in
      (λ i. bind_select (coded_ℕ.inj a0 w.0 (ap (λ g. head (tail g)) p) i) (coded_term.inj a1 w.1.0 (ap (λ g. head (tail (tail g))) p) i) (inj_arms a2 w.1.1.0 (ap (λ g. head (tail (tail (tail g)))) p) i) (inj_code a3 w.1.1.1.0 (ap (λ g. head (tail (tail (tail (tail g))))) p) i)) ∙ sym (w.1.1.1.1)

  pub inj_arms : (x y : Arms) → stored_arms x ≡ stored_arms y → x ≡ y
  inj_arms no_arms y q =
      let w = as_no_arms (gnil) y q in
      sym w
  inj_arms (more_arms a0 a1 a2) y q =
      let w = as_more_arms (gcons (pat_row.the_row.coded.code a0) (gcons (stored_code a1) (gcons (stored_arms a2) gnil))) y q in
      let p : stored_arms (more_arms a0 a1 a2) ≡ stored_arms (more_arms w.0 w.1.0 w.1.1.0) = q ∙ ap stored_arms (w.1.1.1) in
      (λ i. more_arms (pat_row.the_row.coded.inj a0 w.0 (ap (λ g. head (tail g)) p) i) (inj_code a1 w.1.0 (ap (λ g. head (tail (tail g))) p) i) (inj_arms a2 w.1.1.0 (ap (λ g. head (tail (tail (tail g)))) p) i)) ∙ sym (w.1.1.1)

abbrev pub coded_code : Coded Code
coded_code = record { code = stored_code; inj = inj_code }

abbrev pub coded_arms : Coded Arms
coded_arms = record { code = stored_arms; inj = inj_arms }
