-- The atoms of a printed text as they are spelled (TEXT.md, "Grammar").
-- Made by tools/trees.py from tools/raw_ast.desc.py.
use Rattle.std.specs.Prelude.{◌≡◌, ℕ, zero, suc, ◌+◌, Bool, List, [], ◌∷◌, refl}
use Rattle.std.specs.Coded.{Coded, coded_bool}
use Rattle.std.proofs.Common.{ap, sym, ◌∙◌, subst}
use base.Stored.{Gv, gnil, gnum, gcons, num}
use Rattle.raw_ast.specs.declared.spelling.Spelling.{Spelling}
use Rattle.raw_ast.specs.contracts.spelling.Spelling as spelling_row
use Rattle.aen_base.specs.declared.int_ty.IntTy.{IntTy}
use Rattle.aen_base.specs.contracts.int_ty.IntTy as intty_row
use Rattle.raw_ast.specs.declared.names.Constructor.{Constructor}
use Rattle.raw_ast.specs.contracts.names.Constructor as constructor_row

abbrev head : Gv → Gv
head gnil = gnil
head (gnum n) = gnil
head (gcons a b) = a

abbrev tail : Gv → Gv
tail gnil = gnil
tail (gnum n) = gnil
tail (gcons a b) = b

mutual
  pub data RawAtom : Type 0 where
    var : Spelling → RawAtom
    literal : Spelling → IntTy → RawAtom
    truth : Bool → RawAtom
    tuple : RawAtoms → RawAtom
    built : Constructor → RawAtoms → RawAtom

  pub data RawAtoms : Type 0 where
    no_rawatoms : RawAtoms
    more_rawatoms : RawAtom → RawAtoms → RawAtoms

abbrev pub rawatoms : List (RawAtom) → RawAtoms
rawatoms [] = no_rawatoms
rawatoms (x ∷ xs) = more_rawatoms x (rawatoms xs)

abbrev pub rawatoms_list : RawAtoms → List (RawAtom)
rawatoms_list no_rawatoms = []
rawatoms_list (more_rawatoms a0 r) = a0 ∷ rawatoms_list r

pub rawatoms_back : (xs : List (RawAtom)) → rawatoms_list (rawatoms xs) ≡ xs
rawatoms_back [] = refl
rawatoms_back (x ∷ xs) = ap (λ r. x ∷ r) (rawatoms_back xs)

pub rawatoms_inj : (xs ys : List (RawAtom)) → rawatoms xs ≡ rawatoms ys → xs ≡ ys
rawatoms_inj xs ys p = sym (rawatoms_back xs) ∙ ap rawatoms_list p ∙ rawatoms_back ys

abbrev mutual
  pub nodes_rawatom : RawAtom → ℕ
  nodes_rawatom (var a0) = 1
  nodes_rawatom (literal a0 a1) = 1
  nodes_rawatom (truth a0) = 1
  nodes_rawatom (tuple a0) = nodes_rawatoms a0 + 1
  nodes_rawatom (built a0 a1) = nodes_rawatoms a1 + 1

  pub nodes_rawatoms : RawAtoms → ℕ
  nodes_rawatoms no_rawatoms = 1
  nodes_rawatoms (more_rawatoms a0 a1) = nodes_rawatom a0 + nodes_rawatoms a1 + 1

abbrev mutual
  pub stored_rawatom : RawAtom → Gv
  stored_rawatom (var a0) = gcons (gnum 0) (gcons (spelling_row.the_row.coded.code a0) gnil)
  stored_rawatom (literal a0 a1) = gcons (gnum 1) (gcons (spelling_row.the_row.coded.code a0) (gcons (intty_row.the_row.coded.code a1) gnil))
  stored_rawatom (truth a0) = gcons (gnum 2) (gcons (coded_bool.code a0) gnil)
  stored_rawatom (tuple a0) = gcons (gnum 3) (gcons (stored_rawatoms a0) gnil)
  stored_rawatom (built a0 a1) = gcons (gnum 4) (gcons (constructor_row.the_row.coded.code a0) (gcons (stored_rawatoms a1) gnil))

  pub stored_rawatoms : RawAtoms → Gv
  stored_rawatoms no_rawatoms = gcons (gnum 0) (gnil)
  stored_rawatoms (more_rawatoms a0 a1) = gcons (gnum 1) (gcons (stored_rawatom a0) (gcons (stored_rawatoms a1) gnil))

abbrev Is_var : RawAtom → Type 0
Is_var y = (a0 : Spelling) × (y ≡ var a0)

abbrev Is_literal : RawAtom → Type 0
Is_literal y = (a0 : Spelling) × ((a1 : IntTy) × (y ≡ literal a0 a1))

abbrev Is_truth : RawAtom → Type 0
Is_truth y = (a0 : Bool) × (y ≡ truth a0)

abbrev Is_tuple : RawAtom → Type 0
Is_tuple y = (a0 : RawAtoms) × (y ≡ tuple a0)

abbrev Is_built : RawAtom → Type 0
Is_built y = (a0 : Constructor) × ((a1 : RawAtoms) × (y ≡ built a0 a1))

abbrev Shape_rawatom : ℕ → RawAtom → Type 0
Shape_rawatom zero y = Is_var y
Shape_rawatom (suc zero) y = Is_literal y
Shape_rawatom (suc (suc zero)) y = Is_truth y
Shape_rawatom (suc (suc (suc zero))) y = Is_tuple y
Shape_rawatom (suc (suc (suc (suc zero)))) y = Is_built y
Shape_rawatom (suc (suc (suc (suc (suc n))))) y = ⊥

shape_rawatom : (y : RawAtom) → Shape_rawatom (num (head (stored_rawatom y))) y
shape_rawatom (var a0) = (a0, refl)
shape_rawatom (literal a0 a1) = (a0, (a1, refl))
shape_rawatom (truth a0) = (a0, refl)
shape_rawatom (tuple a0) = (a0, refl)
shape_rawatom (built a0 a1) = (a0, (a1, refl))

as_var : (g : Gv) (y : RawAtom) → gcons (gnum 0) g ≡ stored_rawatom y → Is_var y
as_var g y p = subst (λ n. Shape_rawatom n y) (sym (ap (λ g. num (head g)) p)) (shape_rawatom y)

as_literal : (g : Gv) (y : RawAtom) → gcons (gnum 1) g ≡ stored_rawatom y → Is_literal y
as_literal g y p = subst (λ n. Shape_rawatom n y) (sym (ap (λ g. num (head g)) p)) (shape_rawatom y)

as_truth : (g : Gv) (y : RawAtom) → gcons (gnum 2) g ≡ stored_rawatom y → Is_truth y
as_truth g y p = subst (λ n. Shape_rawatom n y) (sym (ap (λ g. num (head g)) p)) (shape_rawatom y)

as_tuple : (g : Gv) (y : RawAtom) → gcons (gnum 3) g ≡ stored_rawatom y → Is_tuple y
as_tuple g y p = subst (λ n. Shape_rawatom n y) (sym (ap (λ g. num (head g)) p)) (shape_rawatom y)

as_built : (g : Gv) (y : RawAtom) → gcons (gnum 4) g ≡ stored_rawatom y → Is_built y
as_built g y p = subst (λ n. Shape_rawatom n y) (sym (ap (λ g. num (head g)) p)) (shape_rawatom y)

abbrev Is_no_rawatoms : RawAtoms → Type 0
Is_no_rawatoms y = y ≡ no_rawatoms

abbrev Is_more_rawatoms : RawAtoms → Type 0
Is_more_rawatoms y = (a0 : RawAtom) × ((a1 : RawAtoms) × (y ≡ more_rawatoms a0 a1))

abbrev Shape_rawatoms : ℕ → RawAtoms → Type 0
Shape_rawatoms zero y = Is_no_rawatoms y
Shape_rawatoms (suc zero) y = Is_more_rawatoms y
Shape_rawatoms (suc (suc n)) y = ⊥

shape_rawatoms : (y : RawAtoms) → Shape_rawatoms (num (head (stored_rawatoms y))) y
shape_rawatoms no_rawatoms = refl
shape_rawatoms (more_rawatoms a0 a1) = (a0, (a1, refl))

as_no_rawatoms : (g : Gv) (y : RawAtoms) → gcons (gnum 0) g ≡ stored_rawatoms y → Is_no_rawatoms y
as_no_rawatoms g y p = subst (λ n. Shape_rawatoms n y) (sym (ap (λ g. num (head g)) p)) (shape_rawatoms y)

as_more_rawatoms : (g : Gv) (y : RawAtoms) → gcons (gnum 1) g ≡ stored_rawatoms y → Is_more_rawatoms y
as_more_rawatoms g y p = subst (λ n. Shape_rawatoms n y) (sym (ap (λ g. num (head g)) p)) (shape_rawatoms y)

mutual
  pub inj_rawatom : (x y : RawAtom) → stored_rawatom x ≡ stored_rawatom y → x ≡ y
  inj_rawatom (var a0) y q =
      let w = as_var (gcons (spelling_row.the_row.coded.code a0) gnil) y q in
      let p : stored_rawatom (var a0) ≡ stored_rawatom (var w.0) = q ∙ ap stored_rawatom (w.1) in
      (λ i. var (spelling_row.the_row.coded.inj a0 w.0 (ap (λ g. head (tail g)) p) i)) ∙ sym (w.1)
  inj_rawatom (literal a0 a1) y q =
      let w = as_literal (gcons (spelling_row.the_row.coded.code a0) (gcons (intty_row.the_row.coded.code a1) gnil)) y q in
      let p : stored_rawatom (literal a0 a1) ≡ stored_rawatom (literal w.0 w.1.0) = q ∙ ap stored_rawatom (w.1.1) in
      (λ i. literal (spelling_row.the_row.coded.inj a0 w.0 (ap (λ g. head (tail g)) p) i) (intty_row.the_row.coded.inj a1 w.1.0 (ap (λ g. head (tail (tail g))) p) i)) ∙ sym (w.1.1)
  inj_rawatom (truth a0) y q =
      let w = as_truth (gcons (coded_bool.code a0) gnil) y q in
      let p : stored_rawatom (truth a0) ≡ stored_rawatom (truth w.0) = q ∙ ap stored_rawatom (w.1) in
      (λ i. truth (coded_bool.inj a0 w.0 (ap (λ g. head (tail g)) p) i)) ∙ sym (w.1)
  inj_rawatom (tuple a0) y q =
      let w = as_tuple (gcons (stored_rawatoms a0) gnil) y q in
      let p : stored_rawatom (tuple a0) ≡ stored_rawatom (tuple w.0) = q ∙ ap stored_rawatom (w.1) in
      (λ i. tuple (inj_rawatoms a0 w.0 (ap (λ g. head (tail g)) p) i)) ∙ sym (w.1)
  inj_rawatom (built a0 a1) y q =
      let w = as_built (gcons (constructor_row.the_row.coded.code a0) (gcons (stored_rawatoms a1) gnil)) y q in
      let p : stored_rawatom (built a0 a1) ≡ stored_rawatom (built w.0 w.1.0) = q ∙ ap stored_rawatom (w.1.1) in
      (λ i. built (constructor_row.the_row.coded.inj a0 w.0 (ap (λ g. head (tail g)) p) i) (inj_rawatoms a1 w.1.0 (ap (λ g. head (tail (tail g))) p) i)) ∙ sym (w.1.1)

  pub inj_rawatoms : (x y : RawAtoms) → stored_rawatoms x ≡ stored_rawatoms y → x ≡ y
  inj_rawatoms no_rawatoms y q =
      let w = as_no_rawatoms (gnil) y q in
      sym w
  inj_rawatoms (more_rawatoms a0 a1) y q =
      let w = as_more_rawatoms (gcons (stored_rawatom a0) (gcons (stored_rawatoms a1) gnil)) y q in
      let p : stored_rawatoms (more_rawatoms a0 a1) ≡ stored_rawatoms (more_rawatoms w.0 w.1.0) = q ∙ ap stored_rawatoms (w.1.1) in
      (λ i. more_rawatoms (inj_rawatom a0 w.0 (ap (λ g. head (tail g)) p) i) (inj_rawatoms a1 w.1.0 (ap (λ g. head (tail (tail g))) p) i)) ∙ sym (w.1.1)

abbrev pub coded_rawatom : Coded RawAtom
coded_rawatom = record { code = stored_rawatom; inj = inj_rawatom }

abbrev pub coded_rawatoms : Coded RawAtoms
coded_rawatoms = record { code = stored_rawatoms; inj = inj_rawatoms }
