-- The code of a printed text as it is spelled (TEXT.md, "Grammar").
-- Made by tools/trees.py from tools/raw_ast.desc.py.
use Rattle.std.specs.Prelude.{◌≡◌, ℕ, zero, suc, ◌+◌, List, [], ◌∷◌, refl}
use Rattle.std.specs.Coded.{Coded}
use Rattle.std.proofs.Common.{ap, sym, ◌∙◌, subst}
use base.Stored.{Gv, gnil, gnum, gcons, num}
use Rattle.raw_ast.specs.declared.spelling.Spelling.{Spelling}
use Rattle.raw_ast.specs.contracts.spelling.Spelling as spelling_row
use Rattle.raw_ast.specs.Atoms.{RawAtom, coded_rawatom}
use Rattle.raw_ast.specs.declared.computation.Computation.{Computation}
use Rattle.raw_ast.specs.contracts.computation.Computation as computation_row
use Rattle.raw_ast.specs.declared.pattern.Pattern.{Pattern}
use Rattle.raw_ast.specs.contracts.pattern.Pattern as pattern_row

abbrev head : Gv → Gv
head gnil = gnil
head (gnum n) = gnil
head (gcons a b) = a

abbrev tail : Gv → Gv
tail gnil = gnil
tail (gnum n) = gnil
tail (gcons a b) = b

mutual
  pub data RawCode : Type 0 where
    bind : Spelling → Computation → RawCode → RawCode
    put : Spelling → RawAtom → RawCode → RawCode
    select : RawAtom → RawArms → RawCode
    last : Computation → RawCode

  pub data RawArms : Type 0 where
    no_rawarms : RawArms
    more_rawarms : Pattern → RawCode → RawArms → RawArms

abbrev pub rawarms : List (Pattern × RawCode) → RawArms
rawarms [] = no_rawarms
rawarms (x ∷ xs) = more_rawarms x.0 x.1 (rawarms xs)

abbrev pub rawarms_list : RawArms → List (Pattern × RawCode)
rawarms_list no_rawarms = []
rawarms_list (more_rawarms a0 a1 r) = (a0, a1) ∷ rawarms_list r

pub rawarms_back : (xs : List (Pattern × RawCode)) → rawarms_list (rawarms xs) ≡ xs
rawarms_back [] = refl
rawarms_back (x ∷ xs) = ap (λ r. x ∷ r) (rawarms_back xs)

pub rawarms_inj : (xs ys : List (Pattern × RawCode)) → rawarms xs ≡ rawarms ys → xs ≡ ys
rawarms_inj xs ys p = sym (rawarms_back xs) ∙ ap rawarms_list p ∙ rawarms_back ys

abbrev mutual
  pub nodes_rawcode : RawCode → ℕ
  nodes_rawcode (bind a0 a1 a2) = nodes_rawcode a2 + 1
  nodes_rawcode (put a0 a1 a2) = nodes_rawcode a2 + 1
  nodes_rawcode (select a0 a1) = nodes_rawarms a1 + 1
  nodes_rawcode (last a0) = 1

  pub nodes_rawarms : RawArms → ℕ
  nodes_rawarms no_rawarms = 1
  nodes_rawarms (more_rawarms a0 a1 a2) = nodes_rawcode a1 + nodes_rawarms a2 + 1

abbrev mutual
  pub stored_rawcode : RawCode → Gv
  stored_rawcode (bind a0 a1 a2) = gcons (gnum 0) (gcons (spelling_row.the_row.coded.code a0) (gcons (computation_row.the_row.coded.code a1) (gcons (stored_rawcode a2) gnil)))
  stored_rawcode (put a0 a1 a2) = gcons (gnum 1) (gcons (spelling_row.the_row.coded.code a0) (gcons (coded_rawatom.code a1) (gcons (stored_rawcode a2) gnil)))
  stored_rawcode (select a0 a1) = gcons (gnum 2) (gcons (coded_rawatom.code a0) (gcons (stored_rawarms a1) gnil))
  stored_rawcode (last a0) = gcons (gnum 3) (gcons (computation_row.the_row.coded.code a0) gnil)

  pub stored_rawarms : RawArms → Gv
  stored_rawarms no_rawarms = gcons (gnum 0) (gnil)
  stored_rawarms (more_rawarms a0 a1 a2) = gcons (gnum 1) (gcons (pattern_row.the_row.coded.code a0) (gcons (stored_rawcode a1) (gcons (stored_rawarms a2) gnil)))

abbrev Is_bind : RawCode → Type 0
Is_bind y = (a0 : Spelling) × ((a1 : Computation) × ((a2 : RawCode) × (y ≡ bind a0 a1 a2)))

abbrev Is_put : RawCode → Type 0
Is_put y = (a0 : Spelling) × ((a1 : RawAtom) × ((a2 : RawCode) × (y ≡ put a0 a1 a2)))

abbrev Is_select : RawCode → Type 0
Is_select y = (a0 : RawAtom) × ((a1 : RawArms) × (y ≡ select a0 a1))

abbrev Is_last : RawCode → Type 0
Is_last y = (a0 : Computation) × (y ≡ last a0)

abbrev Shape_rawcode : ℕ → RawCode → Type 0
Shape_rawcode zero y = Is_bind y
Shape_rawcode (suc zero) y = Is_put y
Shape_rawcode (suc (suc zero)) y = Is_select y
Shape_rawcode (suc (suc (suc zero))) y = Is_last y
Shape_rawcode (suc (suc (suc (suc n)))) y = ⊥

shape_rawcode : (y : RawCode) → Shape_rawcode (num (head (stored_rawcode y))) y
shape_rawcode (bind a0 a1 a2) = (a0, (a1, (a2, refl)))
shape_rawcode (put a0 a1 a2) = (a0, (a1, (a2, refl)))
shape_rawcode (select a0 a1) = (a0, (a1, refl))
shape_rawcode (last a0) = (a0, refl)

as_bind : (g : Gv) (y : RawCode) → gcons (gnum 0) g ≡ stored_rawcode y → Is_bind y
as_bind g y p = subst (λ n. Shape_rawcode n y) (sym (ap (λ g. num (head g)) p)) (shape_rawcode y)

as_put : (g : Gv) (y : RawCode) → gcons (gnum 1) g ≡ stored_rawcode y → Is_put y
as_put g y p = subst (λ n. Shape_rawcode n y) (sym (ap (λ g. num (head g)) p)) (shape_rawcode y)

as_select : (g : Gv) (y : RawCode) → gcons (gnum 2) g ≡ stored_rawcode y → Is_select y
as_select g y p = subst (λ n. Shape_rawcode n y) (sym (ap (λ g. num (head g)) p)) (shape_rawcode y)

as_last : (g : Gv) (y : RawCode) → gcons (gnum 3) g ≡ stored_rawcode y → Is_last y
as_last g y p = subst (λ n. Shape_rawcode n y) (sym (ap (λ g. num (head g)) p)) (shape_rawcode y)

abbrev Is_no_rawarms : RawArms → Type 0
Is_no_rawarms y = y ≡ no_rawarms

abbrev Is_more_rawarms : RawArms → Type 0
Is_more_rawarms y = (a0 : Pattern) × ((a1 : RawCode) × ((a2 : RawArms) × (y ≡ more_rawarms a0 a1 a2)))

abbrev Shape_rawarms : ℕ → RawArms → Type 0
Shape_rawarms zero y = Is_no_rawarms y
Shape_rawarms (suc zero) y = Is_more_rawarms y
Shape_rawarms (suc (suc n)) y = ⊥

shape_rawarms : (y : RawArms) → Shape_rawarms (num (head (stored_rawarms y))) y
shape_rawarms no_rawarms = refl
shape_rawarms (more_rawarms a0 a1 a2) = (a0, (a1, (a2, refl)))

as_no_rawarms : (g : Gv) (y : RawArms) → gcons (gnum 0) g ≡ stored_rawarms y → Is_no_rawarms y
as_no_rawarms g y p = subst (λ n. Shape_rawarms n y) (sym (ap (λ g. num (head g)) p)) (shape_rawarms y)

as_more_rawarms : (g : Gv) (y : RawArms) → gcons (gnum 1) g ≡ stored_rawarms y → Is_more_rawarms y
as_more_rawarms g y p = subst (λ n. Shape_rawarms n y) (sym (ap (λ g. num (head g)) p)) (shape_rawarms y)

mutual
  pub inj_rawcode : (x y : RawCode) → stored_rawcode x ≡ stored_rawcode y → x ≡ y
  inj_rawcode (bind a0 a1 a2) y q =
      let w = as_bind (gcons (spelling_row.the_row.coded.code a0) (gcons (computation_row.the_row.coded.code a1) (gcons (stored_rawcode a2) gnil))) y q in
      let p : stored_rawcode (bind a0 a1 a2) ≡ stored_rawcode (bind w.0 w.1.0 w.1.1.0) = q ∙ ap stored_rawcode (w.1.1.1) in
      (λ i. bind (spelling_row.the_row.coded.inj a0 w.0 (ap (λ g. head (tail g)) p) i) (computation_row.the_row.coded.inj a1 w.1.0 (ap (λ g. head (tail (tail g))) p) i) (inj_rawcode a2 w.1.1.0 (ap (λ g. head (tail (tail (tail g)))) p) i)) ∙ sym (w.1.1.1)
  inj_rawcode (put a0 a1 a2) y q =
      let w = as_put (gcons (spelling_row.the_row.coded.code a0) (gcons (coded_rawatom.code a1) (gcons (stored_rawcode a2) gnil))) y q in
      let p : stored_rawcode (put a0 a1 a2) ≡ stored_rawcode (put w.0 w.1.0 w.1.1.0) = q ∙ ap stored_rawcode (w.1.1.1) in
      (λ i. put (spelling_row.the_row.coded.inj a0 w.0 (ap (λ g. head (tail g)) p) i) (coded_rawatom.inj a1 w.1.0 (ap (λ g. head (tail (tail g))) p) i) (inj_rawcode a2 w.1.1.0 (ap (λ g. head (tail (tail (tail g)))) p) i)) ∙ sym (w.1.1.1)
  inj_rawcode (select a0 a1) y q =
      let w = as_select (gcons (coded_rawatom.code a0) (gcons (stored_rawarms a1) gnil)) y q in
      let p : stored_rawcode (select a0 a1) ≡ stored_rawcode (select w.0 w.1.0) = q ∙ ap stored_rawcode (w.1.1) in
      (λ i. select (coded_rawatom.inj a0 w.0 (ap (λ g. head (tail g)) p) i) (inj_rawarms a1 w.1.0 (ap (λ g. head (tail (tail g))) p) i)) ∙ sym (w.1.1)
  inj_rawcode (last a0) y q =
      let w = as_last (gcons (computation_row.the_row.coded.code a0) gnil) y q in
      let p : stored_rawcode (last a0) ≡ stored_rawcode (last w.0) = q ∙ ap stored_rawcode (w.1) in
      (λ i. last (computation_row.the_row.coded.inj a0 w.0 (ap (λ g. head (tail g)) p) i)) ∙ sym (w.1)

  pub inj_rawarms : (x y : RawArms) → stored_rawarms x ≡ stored_rawarms y → x ≡ y
  inj_rawarms no_rawarms y q =
      let w = as_no_rawarms (gnil) y q in
      sym w
  inj_rawarms (more_rawarms a0 a1 a2) y q =
      let w = as_more_rawarms (gcons (pattern_row.the_row.coded.code a0) (gcons (stored_rawcode a1) (gcons (stored_rawarms a2) gnil))) y q in
      let p : stored_rawarms (more_rawarms a0 a1 a2) ≡ stored_rawarms (more_rawarms w.0 w.1.0 w.1.1.0) = q ∙ ap stored_rawarms (w.1.1.1) in
      (λ i. more_rawarms (pattern_row.the_row.coded.inj a0 w.0 (ap (λ g. head (tail g)) p) i) (inj_rawcode a1 w.1.0 (ap (λ g. head (tail (tail g))) p) i) (inj_rawarms a2 w.1.1.0 (ap (λ g. head (tail (tail (tail g)))) p) i)) ∙ sym (w.1.1.1)

abbrev pub coded_rawcode : Coded RawCode
coded_rawcode = record { code = stored_rawcode; inj = inj_rawcode }

abbrev pub coded_rawarms : Coded RawArms
coded_rawarms = record { code = stored_rawarms; inj = inj_rawarms }
